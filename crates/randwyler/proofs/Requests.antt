-- What the requests of document 02 ask, on the calls: whatever they answer, by their promises alone. Request 1: totals beside an
-- evaluation (`totals-calls`), their tally (`totals-tally-calls`), and of a rewriting (`totals-rewritten-calls`). Request 2: a query that
-- names its subjects, over tables with other records behind these (`replaced-calls`, `replaced-ceiling-calls`). Request 3: the rows in the
-- row space (`rows-calls`), and how often one stands there (`sparql11-calls`, `published-calls`). Request 4: all these by either choice; a
-- query beside its rewriting, and the ceiling, in Demand3. Request 5: the ceiling of a query of pattern sets, unions and project trust
-- (`exact-calls`), and the row space that it needs (`room-calls`). Assumes nothing.
use mathlib.Core.Path.{◌≡◌, sym, ap, ap₂, subst, ◌∙◌}
use mathlib.Core.Bool.{true, false}
use mathlib.Core.List.{List}
use Prim.Native.Nat.{ℕ, ◌≤◌, ◌<◌}
use native.Mathlib.Omega.{arith}
use lib.ListN.{length, take}
use Rattle.tsparql.specs.Values.{Row}
use Rattle.tsparql.specs.Query.{EverySet}
use Rattle.tsparql.specs.Table.{whole_table, record_at, fact_of, facts_in}
use Rattle.tsparql.specs.PatternSets.{Aggregation, aggregate, set_rows, rows_over}
use Rattle.tsparql.specs.Ceiling.{cut, Additive}
use Rattle.tsparql.specs.Reading.{query_node}
use Rattle.tsparql.specs.Evaluate.{capacity}
use Rattle.tsparql.specs.Rewrite.{rewrite, Accepted, written}
use Rattle.tsparql.specs.Check.{Passes, table_refusal, check}
use Rattle.tsparql.specs.WellFormed.{Bytes}
use Rattle.tsparql.specs.Cardinality.{cardinality, NoError, published_cardinality, sparql11_cardinality}
use Rattle.tsparql.specs.Calls.{raise_one, tallied, evaluate_untallied, evaluate, ceiling_call}
use Rattle.tsparql.specs.Totals.{totals_untallied, totals_call, TotalsBeside}
use Rattle.tsparql.proofs.CallLaws.{ceiling-passes, ceiling_call-exact, room-answered, room-refused}
use Rattle.tsparql.proofs.MeanLaws.{aggregate-sound}
use Rattle.tsparql.proofs.Published.{aggregate-set, query-sparql11, query-published}
use Rattle.tsparql.proofs.TotalsLaws.{totals-evaluate, totals-tally, totals-rewritten}
use Rattle.rows.specs.RowWords.{rows_in}
use Rattle.patterns.specs.Scan.{AlikeUpTo, NamedBelow}
use Rattle.randwyler.specs.declared.Rewritten.{Rewritten}
use Rattle.randwyler.specs.declared.Evaluated.{Evaluated}
use Rattle.randwyler.specs.declared.Ceiling.{Ceiling}
use Rattle.randwyler.specs.declared.Tally.{Tally}
use Rattle.randwyler.specs.declared.Totalled.{Totalled}
use Rattle.randwyler.specs.Answers.{rewritten_in, tally_in, evaluated_in, ceiling_in, totals_in}
use Rattle.randwyler.proofs.Replaced.{evaluate-replaced, ceiling-replaced}
use Rattle.randwyler.proofs.AnsweredRows.{evaluation-checked, rows-stand}

-- ---- request 1

-- totals of a query s over a table t by variable u, and an evaluation of it, by one choice, in row spaces of one length with any contents,
-- with any tallies
pub totals-calls : (t s : List ℕ) (g : Aggregation) (u : ℕ) (first first' second second' out out' : List ℕ) (a b : Tally) (x : Totalled)
    (e : Evaluated) → length first ≡ length second → totals_in x first' out' ≡ totals_call t s g u first out (tally_in a)
    → evaluated_in e second' ≡ evaluate t s g second (tally_in b)
    → TotalsBeside t s u (rows_over (aggregate g) (facts_in (whole_table t) t) (query_node s)) first out (totals_in x first' out').totals
    (evaluated_in e second').evaluated
totals-calls t s g u first first' second second' out out' a b x e same totals query =
    let rs = rows_over (aggregate g) (facts_in (whole_table t) t) (query_node s) in
    let base = totals-evaluate t s g u first second out (tally_in a) (tally_in b) same in
    let one =
    subst (λ y. TotalsBeside t s u rs first out y.totals (evaluate t s g second (tally_in b)).evaluated) (sym totals) base in
    subst (λ y. TotalsBeside t s u rs first out (totals_in x first' out').totals y.evaluated) (sym query) one

-- the tally that comes back has been raised once: as answered where nothing is refused, as refused on any refusal
pub totals-tally-calls : (t s : List ℕ) (g : Aggregation) (u : ℕ) (space space' out out' : List ℕ) (a : Tally) (x : Totalled)
    → totals_in x space' out' ≡ totals_call t s g u space out (tally_in a)
    → (x.number ≡ 0 → tally_in x.tally ≡ raise_one true (tally_in a))
    × ((x.number ≡ 0 → ⊥) → tally_in x.tally ≡ raise_one false (tally_in a))
totals-tally-calls t s g u space space' out out' a x totals =
    let number = ap (λ y. y.totals.refusal.number) totals in
    let tally = ap (λ y. y.tally) totals in
    let told = totals-tally t s g u space out (tally_in a) in
    (λ z. tally ∙ told.0 (sym number ∙ z), λ h. tally ∙ told.1 (λ z. h (number ∙ z)))

-- totals of a query s and of what was written for it, by one choice and one variable, into equal outputs and in row spaces of one length:
-- where the first are answered, the second are the same
pub totals-rewritten-calls : (t s result result' : List ℕ) (r : Rewritten) → rewritten_in r result' ≡ rewrite s result → r.number ≡ 0
    → (g : Aggregation) (u : ℕ) (first first' second second' out out' out'' : List ℕ) (a b : Tally) (x y : Totalled)
    → length first ≡ length second → totals_in x first' out' ≡ totals_call t s g u first out (tally_in a)
    → totals_in y second' out'' ≡ totals_call t (take r.length result') g u second out (tally_in b)
    → x.number ≡ 0 → (totals_in y second' out'').totals ≡ (totals_in x first' out').totals
totals-rewritten-calls t s result result' r rewritten zero g u first first' second second' out out' out'' a b x y same query pushed passed =
    let accepted : Accepted s result = ap (λ w. w.refusal.number) (sym rewritten) ∙ zero in
    let is : take r.length result' ≡ written s result = ap (λ w. take w.size w.output) rewritten in
    let passes = ap (λ w. w.totals.refusal.number) (sym query) ∙ passed in
    ap (λ w. w.totals) pushed
    ∙ ap (λ w. totals_untallied t w g u second out) is
    ∙ totals-rewritten (aggregate g) (aggregate-sound g) (whole_table t) t s u first second out result accepted same passes
    ∙ ap (λ w. w.totals) (sym query)

-- ---- request 2

-- two accepted tables have the same records up to record g; every pattern of the query s names a lesser subject than that record has
module _ (g : ℕ) (t u s : List ℕ) (alike : AlikeUpTo g (whole_table t) (whole_table u) t u) (accepted : Passes (table_refusal t))
    (also-accepted : Passes (table_refusal u)) (named : EverySet (NamedBelow (fact_of (record_at t g)).subject) (query_node s)) where
  -- evaluations by one choice, in row spaces with the same words, and with equal tallies, answer the same and leave the same words
  pub replaced-calls : (choice : Aggregation) (space first second : List ℕ) (a : Tally) (x y : Evaluated)
      → evaluated_in x first ≡ evaluate t s choice space (tally_in a) → evaluated_in y second ≡ evaluate u s choice space (tally_in a)
      → evaluated_in x first ≡ evaluated_in y second
  replaced-calls choice space first second a x y one two =
      one
      ∙ ap (λ e. record { evaluated = e; tally = tallied (tally_in a) e.refusal })
      (evaluate-replaced g t u s alike accepted also-accepted named choice space)
      ∙ sym two

  pub replaced-ceiling-calls : (x y : Ceiling) → ceiling_in x ≡ ceiling_call t s → ceiling_in y ≡ ceiling_call u s
      → ceiling_in x ≡ ceiling_in y
  replaced-ceiling-calls x y one two = one ∙ ceiling-replaced g t u s alike accepted also-accepted named ∙ sym two

-- ---- request 3

-- an answered evaluation of a query s over a table t, by either choice
module _ (t s : List ℕ) (g : Aggregation) (space space' : List ℕ) (a : Tally) (x : Evaluated) (bytes : Bytes t)
    (is : evaluated_in x space' ≡ evaluate t s g space (tally_in a)) (number : x.number ≡ 0) where
  none-refused : Passes (evaluate_untallied t s g space).refusal
  none-refused = ap (λ y. y.evaluated.refusal.number) (sym is) ∙ number

  -- the row space shows the rows of the query
  pub rows-calls : rows_in x.rows space' ≡ rows_over (aggregate g) (facts_in (whole_table t) t) (query_node s)
  rows-calls =
      ap₂ rows_in (ap (λ y. y.evaluated.rows) is) (ap (λ y. y.evaluated.row_space) is) ∙ rows-stand t s g space none-refused bytes

  -- a row stands in it as often as the query's outermost operator counts it for the rows of its operands, with the left join of
  -- SPARQL 1.1
  pub sparql11-calls : (r : Row)
      → cardinality (rows_in x.rows space') r ≡ sparql11_cardinality (aggregate g) (facts_in (whole_table t) t) (query_node s) r
  sparql11-calls r =
      ap (λ (rs : List Row). cardinality rs r) rows-calls
      ∙ query-sparql11 (aggregate g) (aggregate-set g) t s (evaluation-checked t s g space none-refused) r

  -- and as often as is published for these, where that is no left join, or its condition does not err on the row's merges
  pub published-calls : (r : Row) → NoError (set_rows (aggregate g) (facts_in (whole_table t) t)) (query_node s) r
      → cardinality (rows_in x.rows space') r ≡ published_cardinality (aggregate g) (facts_in (whole_table t) t) (query_node s) r
  published-calls r e =
      ap (λ (rs : List Row). cardinality rs r) rows-calls
      ∙ query-published (aggregate g) (aggregate-set g) t s (evaluation-checked t s g space none-refused) r e

-- ---- request 5

-- the ceiling of a query s over a table t is answered, and the query has only pattern sets, unions and project trust
module _ (t s : List ℕ) (additive : Additive (query_node s)) (c : Ceiling) (is : ceiling_in c ≡ ceiling_call t s)
    (number : c.number ≡ 0) where
  is-checked : Passes (check t s)
  is-checked = ceiling-passes (whole_table t) t s (ap (λ x. x.refusal.number) (sym is) ∙ number)

  -- it is the number of rows, cut, by either choice
  pub exact-calls : (g : Aggregation) → c.ceiling ≡ cut (length (rows_over (aggregate g) (facts_in (whole_table t) t) (query_node s)))
  exact-calls g = ap (λ x. x.ceiling) is ∙ ceiling_call-exact (aggregate g) t s is-checked additive

  -- an evaluation is answered exactly where the ceiling is at most the capacity, with so many rows; else it is refused with 8
  pub room-calls : (g : Aggregation) (space space' : List ℕ) (a : Tally) (x : Evaluated)
      → evaluated_in x space' ≡ evaluate t s g space (tally_in a)
      → (c.ceiling ≤ capacity (length space) → (x.number ≡ 0) × (x.rows ≡ c.ceiling))
      × (capacity (length space) < c.ceiling → x.number ≡ 8)
  room-calls g space space' a x query =
      let ceiling = ap (λ y. y.ceiling) is in
      let refusal = ap (λ y. y.evaluated.refusal.number) query in
      let rows = ap (λ y. y.evaluated.rows) query in (
        λ h. let e = room-answered t s g space (tally_in a) is-checked additive (omega (arith, ceiling)) in
            (refusal ∙ e.0, rows ∙ e.1 ∙ sym ceiling),
        λ h. refusal ∙ ap (λ r. r.number) (room-refused t s g space (tally_in a) is-checked additive (omega (arith, ceiling))),
      )
