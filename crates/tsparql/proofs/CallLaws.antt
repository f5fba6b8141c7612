-- The calls: every number of an answer fits its type; lent memory keeps its length; an answered evaluation has at most the ceiling's
-- rows; two tables over which a query has one ceiling; the ceiling of an additive query is exact (request 5). Rewriting is in RewriteLaws,
-- demand 3 in Demand3, the tally in TallyLaws. Assumes nothing.
use mathlib.Core.Path.{◌≡◌, refl}
use mathlib.Core.Bool.{Bool, true, false}
use mathlib.Core.List.{List}
use Prim.Native.Nat.{ℕ, ◌*◌, ◌^◌, ◌≤◌, ◌<◌, zero-le}
use native.Mathlib.Nat.{mul-le-mul_right, min-le_right}
use native.Mathlib.Omega.{arith}
use borrow.Author.Tests.{eqb-true, eqb-false, eq-eqb, ne_eqb}
use lib.ListN.{length}
use Rattle.tsparql.specs.Values.{no_cells}
use Rattle.tsparql.specs.Query.{EverySet}
use Rattle.tsparql.specs.Table.{Fact, View, whole_table, facts_in}
use Rattle.tsparql.specs.PatternSets.{choices, Aggregate, Aggregation, aggregate, set_rows, rows_over, space_over}
use Rattle.tsparql.specs.Ceiling.{greatest32, cut, exact_figure, ceiling_of, Additive}
use Rattle.tsparql.specs.Reading.{query_node}
use Rattle.tsparql.specs.Check.{Refusal, Passes, refuse, passes, table_refusal, query_refusal, evaluate_limit, check}
use Rattle.tsparql.specs.Evaluate.{capacity, Evaluated, evaluate_over}
use Rattle.tsparql.specs.Calls.{Tally, evaluate, ceiling_answered, ceiling_refused, ceiling_over, ceiling_call}
use Rattle.tsparql.proofs.NodeSets.{ceiling_of-cong}
use Rattle.tsparql.proofs.RefusalLaws.{or_else-cases}
use Rattle.tsparql.proofs.TableLaws.{table_refusal-cases}
use Rattle.tsparql.proofs.QueryLaws.{query-checked, check-parts, check-alike, query_refusal-cases}
use Rattle.tsparql.proofs.CeilingLaws.{ceiling-fits, exact-figure, additive-ceiling}
use Rattle.tsparql.specs.Writing.{node_size}
use Rattle.tsparql.proofs.SpaceLaws.{pairs-≤, additive-space}
use Rattle.tsparql.proofs.EvaluateLaws.{answer-fits, answer-full, answer-cases, evaluate-checked, evaluate-cases}
use Rattle.tsparql.proofs.EvaluateLaws.{evaluate-answered, length-space, rows-peak-≤, rows-≤-ceiling}

-- ---- check

-- a number is at most 7, and a place at most 65,534
abbrev CheckFits : Refusal → Type 0
CheckFits r = (r.number ≤ 7) × (r.place ≤ 65534)

pub check-fits : (t s : List ℕ) → ((check t s).number ≤ 7) × ((check t s).place ≤ 65534)
unfolding check
check-fits t s =
    or_else-cases CheckFits (table_refusal t) (query_refusal evaluate_limit s)
    (table_refusal-cases CheckFits t (omega arith) (omega arith) (omega arith) (λ i l. (omega arith, omega arith)))
    (query_refusal-cases CheckFits evaluate_limit s (omega arith) (omega arith) (λ l p k. omega arith) (λ l p k. omega arith))

-- ---- evaluate

module _ (g : Aggregate) (v : View) (t s ws : List ℕ) where
  pub evaluate-refusal-fits : ((evaluate_over g v t s ws).refusal.number ≤ 8) × ((evaluate_over g v t s ws).refusal.place ≤ 65534)
  evaluate-refusal-fits =
      evaluate-cases g v t s ws (λ e. (e.refusal.number ≤ 8) × (e.refusal.place ≤ 65534))
      (λ z. answer-cases g (facts_in v t) (query_node s) (length ws) (λ e. (e.refusal.number ≤ 8) × (e.refusal.place ≤ 65534))
      (λ l. omega arith) (λ l. omega arith))
      (λ z. omega (arith, check-fits t s))

  -- pairs are far below 2⁶⁴
  pub evaluate-pairs-< : Passes (evaluate_over g v t s ws).refusal → (evaluate_over g v t s ws).pairs < 2 ^ 64
  evaluate-pairs-< z =
      let a = evaluate-answered g v t s ws z in
      let c = query-checked evaluate_limit s (check-parts t s a.checked).1 in
      let most = pairs-≤ (set_rows g (facts_in v t)) 65535 (query_node s) (omega (arith, a.fits)) in
      let short : node_size (query_node s) ≤ 5120 = omega (arith, c.size, c.short) in
      let fit = mul-le-mul_right (65535 * 65535) short in
      rw a.answer-is (omega (arith, most, fit))

-- an evaluation's numbers fit their types, of an answered one also the counts (on a refusal they are 0); the row space keeps its length
pub record EvaluateFits (words : ℕ) (e : Evaluated) : Type 0 where
  pub refusal-fits : (e.refusal.number ≤ 8) × (e.refusal.place ≤ 65534)
  pub peak-fits : Passes e.refusal → (e.rows ≤ e.peak) × (e.peak ≤ 65535)
  pub pairs-fit : Passes e.refusal → e.pairs < 2 ^ 64
  pub length-kept : length e.row_space ≡ words

pub evaluate-fits : (t s : List ℕ) (g : Aggregation) (ws : List ℕ) (a : Tally) → EvaluateFits (length ws) (evaluate t s g ws a).evaluated
evaluate-fits t s g ws a =
    record {
      refusal-fits = evaluate-refusal-fits (aggregate g) (whole_table t) t s ws;
      peak-fits = rows-peak-≤ (aggregate g) (whole_table t) t s ws;
      pairs-fit = evaluate-pairs-< (aggregate g) (whole_table t) t s ws;
      length-kept = length-space (aggregate g) (whole_table t) t s ws;
    }

-- ---- ceiling

module _ (v : View) (t s : List ℕ) where
  pub ceiling-checked : Passes (check t s) → ceiling_over v t s ≡ ceiling_answered (ceiling_of (exact_figure (facts_in v t)) (query_node s))
  unfolding ceiling_over
  ceiling-checked z = rw (eq-eqb (check t s).number 0 z)

  pub ceiling-refused : (Passes (check t s) → ⊥) → ceiling_over v t s ≡ ceiling_refused (check t s)
  unfolding ceiling_over
  ceiling-refused z = rw (ne_eqb (check t s).number 0 z)

  -- it is refused where the check refuses
  pub ceiling-passes : Passes (ceiling_over v t s).refusal → Passes (check t s)
  ceiling-passes z = go (passes (check t s)) refl
    where
      go : (b : Bool) → passes (check t s) ≡ b → Passes (check t s)
      go true e = eqb-true (check t s).number 0 e
      go false e = let p = eqb-false (check t s).number 0 e in absurd (p (rw (ceiling-refused p) at z))

  -- number and place are the check's, and the ceiling fits in 32 bits
  pub ceiling-call-fits : ((ceiling_over v t s).refusal.number ≤ 7) × ((ceiling_over v t s).refusal.place ≤ 65534)
      × ((ceiling_over v t s).ceiling ≤ greatest32)
  ceiling-call-fits = go (passes (check t s)) refl
    where
      go : (b : Bool) → passes (check t s) ≡ b
          → ((ceiling_over v t s).refusal.number ≤ 7) × ((ceiling_over v t s).refusal.place ≤ 65534)
          × ((ceiling_over v t s).ceiling ≤ greatest32)
      go true e =
          let fs = facts_in v t in
          rw (ceiling-checked (eqb-true (check t s).number 0 e))
          (zero-le, zero-le, ceiling-fits (exact_figure fs) (λ ps. min-le_right (length (choices fs ps no_cells)) greatest32) (query_node s))
      go false e =
          let fits = check-fits t s in
          rw (ceiling-refused (eqb-false (check t s).number 0 e)) (fits.0, fits.1, zero-le)

-- over two tables that pass the check, where every pattern set of a query has the same figure, its ceiling is the same
pub ceiling-alike : (v w : View) (t u s : List ℕ) → Passes (table_refusal t) → Passes (table_refusal u)
    → EverySet (λ ps. exact_figure (facts_in v t) ps ≡ exact_figure (facts_in w u) ps) (query_node s) → ceiling_over v t s ≡ ceiling_over w u s
unfolding ceiling_over
ceiling-alike v w t u s h k e =
    rw (check-alike t u s h k, ceiling_of-cong (exact_figure (facts_in v t)) (exact_figure (facts_in w u)) (query_node s) e)

-- an answered evaluation has at most the ceiling's rows, by either choice
pub rows-≤-ceiling_call : (t s : List ℕ) (g : Aggregation) (ws : List ℕ) (a : Tally) → Passes (evaluate t s g ws a).evaluated.refusal
    → (evaluate t s g ws a).evaluated.rows ≤ (ceiling_call t s).ceiling
rows-≤-ceiling_call t s g ws a z =
    rw (ceiling-checked (whole_table t) t s (evaluate-answered (aggregate g) (whole_table t) t s ws z).checked)
    (rows-≤-ceiling (aggregate g) (whole_table t) t s ws z)

-- ---- the ceiling of an additive query (request 5)

module _ (g : Aggregate) (t s : List ℕ) (checked : Passes (check t s)) (additive : Additive (query_node s)) where
  abbrev facts : List Fact
  facts = facts_in (whole_table t) t

  -- it is the number of rows, cut, whatever makes their trust
  pub ceiling_call-exact : (ceiling_call t s).ceiling ≡ cut (length (rows_over g facts (query_node s)))
  ceiling_call-exact =
      rw (ceiling-checked (whole_table t) t s checked)
      (additive-ceiling (set_rows g facts) (exact_figure facts) (exact-figure g facts) (query_node s) additive)

  rows-space : space_over g facts (query_node s) ≡ length (rows_over g facts (query_node s))
  rows-space = additive-space (set_rows g facts) (query_node s) additive

-- so an evaluation is answered exactly where the ceiling is at most the capacity, with so many rows, by either choice
module _ (t s : List ℕ) (g : Aggregation) (ws : List ℕ) (a : Tally) (checked : Passes (check t s)) (additive : Additive (query_node s)) where
  facts-rows : space_over (aggregate g) (facts_in (whole_table t) t) (query_node s)
      ≡ length (rows_over (aggregate g) (facts_in (whole_table t) t) (query_node s))
  facts-rows = rows-space (aggregate g) t s checked additive

  exact : (ceiling_call t s).ceiling ≡ cut (length (rows_over (aggregate g) (facts_in (whole_table t) t) (query_node s)))
  exact = ceiling_call-exact (aggregate g) t s checked additive

  pub room-answered : (ceiling_call t s).ceiling ≤ capacity (length ws)
      → Passes (evaluate t s g ws a).evaluated.refusal × ((evaluate t s g ws a).evaluated.rows ≡ (ceiling_call t s).ceiling)
  room-answered h =
      let fs = facts_in (whole_table t) t in
      let fits : space_over (aggregate g) fs (query_node s) ≤ capacity (length ws) = omega (arith, facts-rows, exact) in
      rw (evaluate-checked (aggregate g) (whole_table t) t s ws checked, answer-fits (aggregate g) fs (query_node s) (length ws) fits)
      (refl, omega (arith, facts-rows, exact))

  -- and refused with 8 where it is above
  pub room-refused : capacity (length ws) < (ceiling_call t s).ceiling → (evaluate t s g ws a).evaluated.refusal ≡ refuse 8 0
  room-refused h =
      let fs = facts_in (whole_table t) t in
      let full : capacity (length ws) < space_over (aggregate g) fs (query_node s) = omega (arith, facts-rows, exact) in
      rw (evaluate-checked (aggregate g) (whole_table t) t s ws checked, answer-full (aggregate g) fs (query_node s) (length ws) full)
