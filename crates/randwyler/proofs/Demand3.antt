-- Demand 3 on the calls: whatever the rewriting and the two evaluations answer, by their promises alone. The statement's parts are in
-- tsparql's specs/Demand3. Assumes nothing.
use mathlib.Core.Path.{◌≡◌, sym, ap, subst, ◌∙◌}
use mathlib.Core.List.{List}
use Prim.Native.Nat.{ℕ, ◌≤◌}
use native.Mathlib.Omega.{arith}
use lib.ListN.{length, take}
use Rattle.tsparql.specs.Table.{whole_table}
use Rattle.tsparql.specs.PatternSets.{Aggregation, aggregate}
use Rattle.tsparql.specs.Check.{Passes}
use Rattle.tsparql.specs.Rewrite.{rewrite, Accepted, written}
use Rattle.tsparql.specs.Calls.{evaluate, ceiling_call}
use Rattle.tsparql.specs.Demand3.{Demand3}
use Rattle.tsparql.proofs.Demand3.{demand3}
use Rattle.tsparql.proofs.CallLaws.{rows-≤-ceiling_call}
use Rattle.randwyler.specs.declared.Rewritten.{Rewritten}
use Rattle.randwyler.specs.declared.Evaluated.{Evaluated}
use Rattle.randwyler.specs.declared.Tally.{Tally}
use Rattle.randwyler.specs.declared.Ceiling.{Ceiling}
use Rattle.randwyler.specs.Answers.{rewritten_in, tally_in, evaluated_in, ceiling_in}

-- a query s is rewritten into an output and not refused; s, and then what was written, are evaluated over a table t by one choice, in row
-- spaces of one length with any contents, with any tallies
module _ (t s out out' : List ℕ) (r : Rewritten) (rewritten : rewritten_in r out' ≡ rewrite s out) (accepted : r.number ≡ 0)
    (g : Aggregation) (first first' second second' : List ℕ) (a b : Tally) (e f : Evaluated) (same : length first ≡ length second)
    (query : evaluated_in e first' ≡ evaluate t s g first (tally_in a))
    (pushed : evaluated_in f second' ≡ evaluate t (take r.length out') g second (tally_in b)) where
  is-accepted : Accepted s out
  is-accepted = ap (λ w. w.refusal.number) (sym rewritten) ∙ accepted

  is-written : take r.length out' ≡ written s out
  is-written = ap (λ w. take w.size w.output) rewritten

  pub demand3-calls : Demand3 (aggregate g) (whole_table t) t s (take r.length out') (length first)
      (evaluated_in e first').evaluated (evaluated_in f second').evaluated
  demand3-calls =
      let w = take r.length out' in
      let n = length first in
      let v = whole_table t in
      let left = (evaluate t s g first (tally_in a)).evaluated in
      let base = demand3 t s out g first second (tally_in a) (tally_in b) is-accepted same in
      let here =
      subst (λ w. Demand3 (aggregate g) v t s w n left (evaluate t w g second (tally_in b)).evaluated) (sym is-written) base in
      let one =
      subst (λ x. Demand3 (aggregate g) v t s w n x.evaluated (evaluate t w g second (tally_in b)).evaluated) (sym query) here in
      subst (λ y. Demand3 (aggregate g) v t s w n (evaluated_in e first').evaluated y.evaluated) (sym pushed) one

-- an answered evaluation, by either choice, has at most the ceiling's rows
pub ceiling-calls : (t s : List ℕ) (g : Aggregation) (space space' : List ℕ) (a : Tally) (e : Evaluated) (c : Ceiling)
    → evaluated_in e space' ≡ evaluate t s g space (tally_in a) → ceiling_in c ≡ ceiling_call t s → e.number ≡ 0 → e.rows ≤ c.ceiling
ceiling-calls t s g space space' a e c query ceiling answered =
    let passes : Passes (evaluate t s g space (tally_in a)).evaluated.refusal =
    ap (λ x. x.evaluated.refusal.number) (sym query) ∙ answered in
    omega (
      arith,
      ap (λ x. x.evaluated.rows) query,
      ap (λ x. x.ceiling) ceiling,
      rows-≤-ceiling_call t s g space (tally_in a) passes,
    )
