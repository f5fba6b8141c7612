-- What a buffer holds from its front on (`Holds`), and what a change leaves of it: each is about every way to part what is held into
-- blocks, and about nothing behind the end. Assumes nothing.
use Rattle.std.specs.Prelude.{◌≡◌, List, ◌∷◌, ◌++◌, ℕ, ◌+◌, ◌≤◌, ◌<◌, length, take}
use Rattle.blocks.specs.Buffers.{Filled}

-- a buffer of `all` bytes holds bs up to its end
pub record Holds (b : Filled) (bs : List ℕ) (all : ℕ) : Type 0 where
  pub whole : length b.bytes ≡ all
  pub size : b.end ≡ length bs
  pub front : take b.end b.bytes ≡ bs

-- v stands in front of the last block bs, which began at i, where there is room
abbrev pub Puts : Filled → Filled → ℕ → ℕ → Type 0
Puts b b' i v = (all : ℕ) (pre bs : List ℕ) → length pre ≡ i → Holds b (pre ++ bs) all → b.end < all → Holds b' (pre ++ (v ∷ bs)) all

-- bs stands behind the end, where there is room
abbrev pub Appends : Filled → Filled → List ℕ → Type 0
Appends b b' bs = (all : ℕ) (pre : List ℕ) → Holds b pre all → b.end + length bs ≤ all → Holds b' (pre ++ bs) all

-- the last two blocks changed places
abbrev pub Exchanges : Filled → Filled → ℕ → ℕ → Type 0
Exchanges b b' i m =
    (all : ℕ) (pre x y : List ℕ) → length pre ≡ i → length pre + length x ≡ m → Holds b (pre ++ (x ++ y)) all
    → Holds b' (pre ++ (y ++ x)) all
