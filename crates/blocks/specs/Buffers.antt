-- A buffer in use up to an end, after a byte or bytes came in (`inserted`, `prepended`), after bytes came behind the end (`appended`), after
-- a part was turned round (`reversed`), and after two neighbouring parts changed places (`exchanged`). Assumes nothing.
use Rattle.std.specs.Prelude.{Bool, cond, ◌&&◌, List, [], ◌∷◌, ◌++◌, ℕ, ◌+◌, ◌-◌, leb, ltb, min, length, take, drop}
use mathlib.Core.List.{reverse}

pub record Filled : Type 0 where
  pub bytes : List ℕ
  pub end : ℕ

abbrev pub buffer : List ℕ → ℕ → Filled
buffer l e = record { bytes = l; end = e }

-- a place up to the end, and a byte behind it
abbrev pub has_room : ℕ → ℕ → ℕ → Bool
has_room i e size = leb i e && ltb e size

-- v at i, and what stands from i to e one place on, over the byte at e
abbrev pub shifted : List ℕ → ℕ → ℕ → ℕ → List ℕ
shifted l i e v = take i l ++ v ∷ (take (e - i) (drop i l) ++ drop (e + 1) l)

-- v comes in at i; nothing changes where there is no room
unfoldable pub inserted : Filled → ℕ → ℕ → Filled
inserted b i v = cond (has_room i b.end (length b.bytes)) (buffer (shifted b.bytes i b.end v) (b.end + 1)) b

-- bytes come in at i, the last one first
unfoldable pub prepended : Filled → ℕ → List ℕ → Filled
prepended b i [] = b
prepended b i (v ∷ vs) = inserted (prepended b i vs) i v

-- bytes come behind the end, one after the other
unfoldable pub appended : Filled → List ℕ → Filled
appended b [] = b
appended b (v ∷ vs) = appended (inserted b b.end v) vs

-- the bytes from i to m
abbrev pub slice : ℕ → ℕ → List ℕ → List ℕ
slice i m l = drop i (take m l)

-- the bytes from i to m stand the other way round
abbrev pub reversed : List ℕ → ℕ → ℕ → List ℕ
reversed l i m = take i l ++ (reverse (slice i m l) ++ drop m l)

-- the bytes from i to m and those from m to e change places; nothing changes where the places are in no such order
unfoldable pub exchanged : List ℕ → ℕ → ℕ → ℕ → List ℕ
exchanged l i m e =
    cond (leb i m && (leb m e && leb e (length l)))
    (take i l ++ (slice m e l ++ (slice i m l ++ drop e l))) l

-- only what stands before n is in use
abbrev pub cut : Filled → ℕ → Filled
cut b n = buffer b.bytes (min b.end n)
