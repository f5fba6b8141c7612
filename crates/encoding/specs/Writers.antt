-- The bytes of a head alone, for the writers, and what a writer leaves in a lent output. Nothing is written of a value with
-- a number out of range, nor where the output is too short. Assumes nothing.
use Rattle.std.specs.Prelude.{◌≡◌, ◌&&◌, cond, List, [], ◌∷◌, ◌++◌, ℕ, ◌+◌, ◌*◌, leb, ltb, length, drop}
use Rattle.tsparql.specs.Writing.{first_byte, three_bytes}
use Rattle.heads.specs.declared.Head.{Head}
use Rattle.heads.specs.declared.Head.TheVariants as H

-- ---- bytes

-- a first byte; none where n has more than 4 bits
abbrev pub first_bytes : ℕ → ℕ → List ℕ
first_bytes kind n = cond (ltb n 16) (first_byte kind n ∷ []) []

-- ensure trust with its bounds, plus 1000
abbrev pub bounds_bytes : ℕ → ℕ → List ℕ
bounds_bytes l u = cond (leb l 2000 && leb u 2000) (first_byte 6 0 ∷ three_bytes (4096 * l + u)) []

-- a node's head
abbrev pub head_bytes : Head → List ℕ
head_bytes (H.PatternSet n) = first_bytes 0 n
head_bytes H.Join = first_bytes 1 0
head_bytes H.LeftJoin = first_bytes 2 0
head_bytes H.Union = first_bytes 3 0
head_bytes H.Filter = first_bytes 4 0
head_bytes (H.ProjectTrust v) = first_bytes 5 v
head_bytes (H.EnsureTrust l u) = bounds_bytes l u

-- ---- outputs

-- bytes at the front of an output, the rest unchanged, and how many they are
pub record Wrote (ws out out' : List ℕ) (r : ℕ) : Type 0 where
  pub size : r ≡ length ws
  pub bytes : out' ≡ ws ++ drop (length ws) out

-- all of them where they fit, else none
abbrev pub WroteIfFits : List ℕ → List ℕ → List ℕ → ℕ → Type 0
WroteIfFits ws out out' r = Wrote (cond (leb (length ws) (length out)) ws []) out out' r
