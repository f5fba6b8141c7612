-- Patterns one behind the other, from a place on: the next one faults, or leaves those behind it. Assumes nothing.
use mathlib.Core.Path.{◌≡◌, refl, sym, ap}
use mathlib.Core.Bool.{Bool, true, false, ◌&&◌}
use mathlib.Core.List.{List, ◌∷◌}
use Prim.Native.Nat.{ℕ, zero, suc, ◌+◌, ◌-◌, ◌≤◌}
use native.Mathlib.Nat.{add-zero, zero-add, add_assoc}
use native.Mathlib.Omega.{arith}
use borrow.Author.Tests.{leb-true}
use lib.Dec.{leb}
use lib.ListN.{length, take, drop, length-drop}
use lib.Seq.{drop-drop}
use Rattle.tsparql.specs.Query.{Pattern}
use Rattle.tsparql.specs.Reading.{Read, got, fault, and_then, require, bits24, slot_sound, pattern_at, read_pattern, read_patterns}
use Rattle.tsparql.proofs.WrittenRead.{read_pattern-sound}
use Rattle.tsparql.specs.WellFormed.{PatternFormed}
use Rattle.tsparql.specs.Writing.{pattern_bytes}
use Rattle.query.specs.Parts.{placed, shift, patterns_from}
use Rattle.query.specs.Found.{IsGot}
use Rattle.query.proofs.ReadLaws.{part-drop, place_of, reads-inside}

pub patterns-none : (s : List ℕ) (at n : ℕ) → n ≡ 0 → patterns_from n at s ≡ got tt at
unfolding read_patterns
patterns-none s at n e = rw (e, add-zero at)

-- the patterns by the next one
pub next-pattern : (s : List ℕ) (at n k : ℕ) (x : Pattern) → 1 ≤ n → read_pattern (drop at s) ≡ got x k
    → read_patterns n (drop at s) ≡ and_then k (read_patterns (n - 1) (drop (at + k) s)) (λ ps next. got (x ∷ ps) next)
unfolding read_patterns
next-pattern s at zero k x l e = absurd (omega arith)
next-pattern s at (suc n) k x l e = let one : suc n - 1 ≡ n = omega arith in rw (e, one, zero-add k, drop-drop k at s)

pub patterns-next : (s : List ℕ) (at n k : ℕ) (x : Pattern) → 1 ≤ n → read_pattern (drop at s) ≡ got x k
    → patterns_from n at s ≡ patterns_from (n - 1) (at + k) s
patterns-next s at n k x l e = rw (next-pattern s at n k x l e) (go (read_patterns (n - 1) (drop (at + k) s)))
  where
    go : (r : Read (List Pattern)) → placed (shift at (and_then k r (λ ps next. got (x ∷ ps) next))) ≡ placed (shift (at + k) r)
    go (got ps n) = ap (got (tt {0})) (sym (add_assoc at k n))
    go (fault p) = ap fault (sym (add_assoc at k p))

-- a pattern's fault is at its start
pattern-fault : (s : List ℕ) (p : ℕ) → read_pattern s ≡ fault p → p ≡ 0
unfolding read_pattern
pattern-fault s p e =
    go (leb 9 (length s) && slot_sound (bits24 s 0) && slot_sound (bits24 s 3) && slot_sound (bits24 s 6))
    (pattern_at s) e
  where
    go : (b : Bool) (x : Pattern) → require b (got x 9) ≡ fault p → p ≡ 0
    go true x d = cc
    go false x d = cc

pub patterns-fault : (s : List ℕ) (at n p : ℕ) → 1 ≤ n → read_pattern (drop at s) ≡ fault p → patterns_from n at s ≡ fault at
unfolding read_patterns
patterns-fault s at zero p l e = absurd (omega arith)
patterns-fault s at (suc n) p l e = rw (e, pattern-fault (drop at s) p e, add-zero at)

-- the first of patterns that are there: its bytes are, and it is what they hold
pub pattern-there : (n : ℕ) (s : List ℕ) → 1 ≤ n → IsGot (read_patterns n s) → (9 ≤ length s) × (read_pattern s ≡ got (pattern_at s) 9)
unfolding read_patterns read_pattern
pattern-there zero s some sound = absurd (omega arith)
pattern-there (suc n) s some sound =
    go (leb 9 (length s)) (slot_sound (bits24 s 0)) (slot_sound (bits24 s 3)) (slot_sound (bits24 s 6)) refl sound
  where
    go : (b x y z : Bool) → leb 9 (length s) ≡ b
        → IsGot (and_then 0 (require (b && x && y && z) (got (pattern_at s) 9))
        (λ p at. and_then at (read_patterns n (drop at s)) (λ ps next. got (p ∷ ps) next)))
        → (9 ≤ length s) × (require (b && x && y && z) (got (pattern_at s) 9) ≡ got (pattern_at s) 9)
    go true true true true e h = (leb-true 9 (length s) e, refl)
    go true true true false e h = absurd h
    go true true false z e h = absurd h
    go true false y z e h = absurd h
    go false x y z e h = absurd h

pub pattern-inside : (s : List ℕ) → place_of (read_pattern s) ≤ length s
pattern-inside s = reads-inside PatternFormed pattern_bytes s (read_pattern s) (read_pattern-sound s)

-- the place behind a pattern that was read from a place on
pub pattern-part : (s : List ℕ) (at : ℕ) (r : Read Pattern) → r ≡ read_pattern (take (length s - at) (drop at s)) → at ≤ length s
    → at + place_of r ≤ length s
pattern-part s at r e l = rw (e, part-drop s at) (omega (arith, pattern-inside (drop at s), length-drop at s))
