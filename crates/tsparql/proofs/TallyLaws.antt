-- The tally over a run of calls that take one, for every run: from any counts that have not passed the greatest value (`run-counts`),
-- and from zero (`tally-run`). Assumes nothing.
use mathlib.Core.Path.{◌≡◌, refl, sym}
use mathlib.Core.Bool.{Bool, true, false, not}
use mathlib.Core.List.{List, [], ◌∷◌}
use Prim.Native.Nat.{suc, ◌+◌, ◌≤◌, min}
use native.Mathlib.Omega.{arith}
use lib.ListN.{length}
use Rattle.tsparql.specs.Lists.{cons_if, keep_if}
use Rattle.tsparql.specs.Ceiling.{greatest32}
use Rattle.tsparql.specs.Check.{Refusal, passes}
use Rattle.tsparql.specs.Calls.{Tally, raise_one, tallied}
use Rattle.tsparql.specs.Runs.{TalliedCall, an_evaluation, a_totals, call_refusal, tally_after}
use Rattle.tsparql.specs.Runs.{answered_count, refused_count, zero_tally, run}

-- every call is answered or refused
counted-all : (es : List TalliedCall) → answered_count es + refused_count es ≡ length es
counted-all [] = refl
counted-all (e ∷ es) = go (passes (call_refusal e)) (counted-all es)
  where
    go : (b : Bool) → answered_count es + refused_count es ≡ length es
        → length (cons_if b e (keep_if (λ d. passes (call_refusal d)) es))
        + length (cons_if (not b) e (keep_if (λ d. not (passes (call_refusal d))) es))
        ≡ suc (length es)
    go true h = omega arith
    go false h = omega arith

-- b shows the counts of a, each raised once for each of its calls, and stopped at the greatest value
pub record Counted (a b : Tally) (es : List TalliedCall) : Type 0 where
  pub answered-is : b.answered ≡ min (a.answered + answered_count es) greatest32
  pub refused-is : b.refused ≡ min (a.refused + refused_count es) greatest32

-- one call raises one of the two counts
tallied-counts : (a : Tally) (e : TalliedCall) → a.answered ≤ greatest32 → a.refused ≤ greatest32
    → Counted a (tallied a (call_refusal e)) (e ∷ [])
unfolding tallied
tallied-counts a e h k = record { answered-is = (go (passes (call_refusal e))).0; refused-is = (go (passes (call_refusal e))).1 }
  where
    go : (b : Bool) → ((raise_one b a).answered ≡ min (a.answered + length (cons_if b e [])) greatest32)
        × ((raise_one b a).refused ≡ min (a.refused + length (cons_if (not b) e [])) greatest32)
    go true = (omega arith, omega arith)
    go false = (omega arith, omega arith)

answered_count-cons : (e : TalliedCall) (es : List TalliedCall) → answered_count (e ∷ es) ≡ answered_count (e ∷ []) + answered_count es
answered_count-cons e es = go (passes (call_refusal e))
  where
    go : (b : Bool) → length (cons_if b e (keep_if (λ d. passes (call_refusal d)) es)) ≡ length (cons_if b e []) + answered_count es
    go true = omega arith
    go false = omega arith

refused_count-cons : (e : TalliedCall) (es : List TalliedCall) → refused_count (e ∷ es) ≡ refused_count (e ∷ []) + refused_count es
refused_count-cons e es = go (not (passes (call_refusal e)))
  where
    go : (b : Bool) → length (cons_if b e (keep_if (λ d. not (passes (call_refusal d))) es)) ≡ length (cons_if b e []) + refused_count es
    go true = omega arith
    go false = omega arith

-- a call counts by its refusal
tally-after : (a : Tally) (c : TalliedCall) → tally_after a c ≡ tallied a (call_refusal c)
tally-after a (an_evaluation e) = refl
tally-after a (a_totals e u out) = refl

-- for every run: each count is raised once for each of its calls, and stops at 4,294,967,295
pub run-counts : (a : Tally) (es : List TalliedCall) → a.answered ≤ greatest32 → a.refused ≤ greatest32 → Counted a (run a es) es
unfolding run
run-counts a [] h k = record { answered-is = omega arith; refused-is = omega arith }
run-counts a (e ∷ es) h k =
    let first = rw (sym (tally-after a e)) at (tallied-counts a e h k) in
    let rest = run-counts (tally_after a e) es (omega (arith, first.answered-is)) (omega (arith, first.refused-is)) in
    record {
      answered-is = omega (arith, first.answered-is, rest.answered-is, answered_count-cons e es);
      refused-is = omega (arith, first.refused-is, rest.refused-is, refused_count-cons e es);
    }

-- begun at zero, while neither has stopped, the counts together are the calls, and answered is how many were answered
pub tally-run : (es : List TalliedCall) → ((run zero_tally es).answered ≡ greatest32 → ⊥) → ((run zero_tally es).refused ≡ greatest32 → ⊥)
    → ((run zero_tally es).answered + (run zero_tally es).refused ≡ length es) × ((run zero_tally es).answered ≡ answered_count es)
tally-run es h k =
    let c = run-counts zero_tally es (omega arith) (omega arith) in
    (omega (arith, c.answered-is, c.refused-is, counted-all es), omega (arith, c.answered-is))

-- a count that has stopped stays
pub tallied-stays : (a : Tally) (r : Refusal) → (a.answered ≡ greatest32 → (tallied a r).answered ≡ greatest32)
    × (a.refused ≡ greatest32 → (tallied a r).refused ≡ greatest32)
unfolding tallied
tallied-stays a r = go (passes r)
  where
    go : (b : Bool) → (a.answered ≡ greatest32 → (raise_one b a).answered ≡ greatest32)
        × (a.refused ≡ greatest32 → (raise_one b a).refused ≡ greatest32)
    go true = (λ h. omega arith, λ h. h)
    go false = (λ h. h, λ h. omega arith)
