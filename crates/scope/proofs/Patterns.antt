-- What the loop over patterns keeps: the patterns left have the variable exactly if all have it (`HaveLeft`). Assumes nothing.
use mathlib.Core.Path.{◌≡◌, refl, ap, ◌∙◌}
use mathlib.Core.Bool.{true, false, ◌||◌}
use mathlib.Core.List.{List, ◌∷◌, ◌++◌}
use Prim.Native.Nat.{ℕ, zero, suc, ◌+◌, ◌-◌, ◌≤◌}
use native.Mathlib.Nat.{zero-add}
use native.Mathlib.Omega.{arith}
use borrow.Author.Tests.{lt-ltb}
use lib.ListN.{length, drop, length-drop}
use Rattle.tsparql.specs.Query.{Pattern}
use Rattle.tsparql.specs.Reading.{Read, got, fault, and_then, pattern_at, read_pattern, read_patterns}
use Rattle.tsparql.specs.Check.{variables_of, occurrences}
use Rattle.query.specs.Found.{PatternsSound}
use Rattle.query.proofs.PatternParts.{next-pattern, pattern-there}
use Rattle.scope.specs.Variables.{has, patterns_of}
use Rattle.tsparql.proofs.FreeVariables.{occurrences-append}

pub has-append : (v : ℕ) (xs ys : List ℕ) → has v (xs ++ ys) ≡ has v xs || has v ys
has-append v xs ys = go (occurrences v xs) refl
  where
    go : (n : ℕ) → occurrences v xs ≡ n → has v (xs ++ ys) ≡ has v xs || has v ys
    go zero e = rw (occurrences-append v xs ys, e, zero-add (occurrences v ys))
    go (suc n) e =
        rw (
          lt-ltb 0 (occurrences v xs) (omega arith),
          lt-ltb 0 (occurrences v (xs ++ ys)) (omega (arith, occurrences-append v xs ys)),
        )

-- the patterns left from a place on have the variable exactly if all have it
pub record HaveLeft (v : ℕ) (s : List ℕ) (n at left p : ℕ) : Type 0 where
  pub same : has v (patterns_of n at s) ≡ has v (patterns_of left p s)
  pub sound : PatternsSound left p s
  pub inside : p ≤ length s

-- the next of the patterns left, and those behind it
record NextPattern (s : List ℕ) (left p k : ℕ) (x : Pattern) : Type 0 where
  variables : patterns_of left p s ≡ variables_of x ++ patterns_of (left - 1) (p + k) s
  behind : PatternsSound (left - 1) (p + k) s

next_of : (s : List ℕ) (left p k : ℕ) (x : Pattern) → 1 ≤ left → read_pattern (drop p s) ≡ got x k → PatternsSound left p s
    → NextPattern s left p k x
next_of s left p k x l e h = go (read_patterns (left - 1) (drop (p + k) s)) refl
  where
    step : read_patterns left (drop p s) ≡ and_then k (read_patterns (left - 1) (drop (p + k) s)) (λ ps next. got (x ∷ ps) next)
    step = next-pattern s p left k x l e

    go : (r : Read (List Pattern)) → read_patterns (left - 1) (drop (p + k) s) ≡ r → NextPattern s left p k x
    go (got ps m) d = record { variables = rw (step, d); behind = rw d tt }
    go (fault m) d = absurd (rw (step, d) at h)

module _ {v : ℕ} {s : List ℕ} {n at left p : ℕ} (h : HaveLeft v s n at left p) where
  pub have-none : left ≡ 0 → has v (patterns_of n at s) ≡ false
  unfolding read_patterns
  have-none e = h.same ∙ rw e

  -- the bytes of the next pattern are there
  pub pattern-long : 1 ≤ left → 9 ≤ length (drop p s)
  pattern-long l = (pattern-there left (drop p s) l h.sound).0

  next : 1 ≤ left → NextPattern s left p 9 (pattern_at (drop p s))
  next l = next_of s left p 9 (pattern_at (drop p s)) l (pattern-there left (drop p s) l h.sound).1 h.sound

  -- the next pattern has the variable, or those behind it have it exactly if all have it
  split : (l : 1 ≤ left)
      → has v (patterns_of n at s) ≡ has v (variables_of (pattern_at (drop p s))) || has v (patterns_of (left - 1) (p + 9) s)
  split l = h.same ∙ ap (has v) (next l).variables ∙ has-append v (variables_of (pattern_at (drop p s))) (patterns_of (left - 1) (p + 9) s)

  pub have-here : 1 ≤ left → has v (variables_of (pattern_at (drop p s))) ≡ true → has v (patterns_of n at s) ≡ true
  have-here l t = split l ∙ rw t

  pub have-next : (m : ℕ) → left ≡ m + 1 → has v (variables_of (pattern_at (drop p s))) ≡ false → HaveLeft v s n at m (p + 9)
  have-next m e f =
      let l : 1 ≤ left = omega arith in
      let fewer : left - 1 ≡ m = omega arith in
      record {
        same = rw (f, fewer) at (split l);
        sound = rw fewer at (next l).behind;
        inside = omega (arith, pattern-long l, length-drop p s);
      }
