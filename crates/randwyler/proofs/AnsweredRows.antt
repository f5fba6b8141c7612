-- The rows of an answered query in the row space: as many as told, at most 65,535, at the front and well-formed. What a call does with
-- rows, it does with these: for a query that passed the check it has the two premises of them (`ready-answers`, `ready-formed`), and
-- then `answered-held`, `answered-rows` and `answered-few`. Of a whole evaluation it is `rows-stand`. Assumes nothing.
use mathlib.Core.Path.{◌≡◌, refl, sym, ap, subst, ◌∙◌}
use mathlib.Core.List.{List}
use Prim.Native.Nat.{ℕ, ◌*◌, ◌≤◌}
use native.Mathlib.Omega.{arith}
use lib.ListN.{length, take}
use lib.Seq.{take_at}
use Rattle.tsparql.specs.Lists.{Every, concat_map}
use Rattle.tsparql.specs.Values.{Row}
use Rattle.tsparql.specs.Query.{Node}
use Rattle.tsparql.specs.Table.{Fact, View, whole_table, facts_in}
use Rattle.tsparql.specs.Reading.{query_node}
use Rattle.tsparql.specs.PatternSets.{Aggregate, Aggregation, aggregate, set_rows, rows_over}
use Rattle.tsparql.specs.WellFormed.{Bytes}
use Rattle.tsparql.specs.Check.{Passes, check}
use Rattle.tsparql.specs.Evaluate.{row_length, row_words, answer, answered_with}
use Rattle.tsparql.specs.Calls.{evaluate_untallied}
use Rattle.tsparql.proofs.SpaceLaws.{count-space-≤}
use Rattle.tsparql.proofs.TableLaws.{facts-sound}
use Rattle.tsparql.proofs.MeanLaws.{aggregate-sound}
use Rattle.tsparql.proofs.QueryLaws.{check-parts}
use Rattle.tsparql.proofs.EvaluateLaws.{answer-fits, answer-passes, evaluate-answered}
use Rattle.rows.specs.RowWords.{rows_in, RowFormed, RowsHeld, Front}
use Rattle.rows.proofs.RowWordLaws.{rows_in-written, length-written, front-rows, front-held}
use Rattle.query.specs.Found.{node_of}
use Rattle.patterns.proofs.RecordLaws.{facts-formed}
use Rattle.evaluation.specs.Evaluations.{Answers}
use Rattle.evaluation.specs.declared.QueryRows.{QueryRows}
use Rattle.evaluation.proofs.ReadyLaws.{rows-formed}
use Rattle.std.specs.Prelude.{Result, Ok}
use Rattle.refusals.specs.declared.Refused.{Refused}
use Rattle.randwyler.specs.Answers.{Ready}
use Rattle.randwyler.proofs.Evaluations.{ready-seen, ready-node}

-- ---- of a query that passed the check

module _ (g : Aggregation) (v : View) (t s : List ℕ) (ready : Ready v t s) where
  -- the answer is that of the query's tree
  pub ready-answers : {words : ℕ} {out : List ℕ} {r : Result QueryRows Refused} → Answers (aggregate g) (facts_in v t) (node_of s) words out r
      → Answers (aggregate g) (facts_in v t) (query_node s) words out r
  ready-answers {words} {out} {r} a =
      subst (λ (q : Node). Answers (aggregate g) (facts_in v t) q words out r) (ready-node v t s ready).1 a

  pub ready-formed : Bytes t → Every RowFormed (rows_over (aggregate g) (facts_in v t) (query_node s))
  ready-formed bytes =
      rows-formed (aggregate g) (aggregate-sound g) (facts_in v t) (facts-formed v t (ready-seen v t s ready) bytes)
      (facts-sound v t (check-parts t s ready.passed).0) (query_node s)

-- ---- the rows

module _ {g : Aggregate} {fs : List Fact} {q : Node} {words : ℕ} {out : List ℕ} {c : QueryRows}
    (formed : Every RowFormed (rows_over g fs q)) (a : Answers g fs q words out (Ok c)) where
  abbrev rs : List Row
  rs = rows_over g fs q

  passed : Passes (answer g fs q words).refusal
  passed = ap (λ e. e.refusal.number) (sym a.answer-is)

  answered-is : answer g fs q words ≡ answered_with g fs q words
  answered-is = answer-fits g fs q words (answer-passes g fs q words passed)

  pub answered-count : c.rows ≡ length rs
  answered-count = ap (λ e. e.rows) (a.answer-is ∙ answered-is)

  pub answered-few : c.rows ≤ 65535
  answered-few =
      omega (arith, answered-count, count-space-≤ (set_rows g fs) q, answer-passes g fs q words passed)

  front : Front rs out
  front =
      ap (take (row_length * length rs)) (ap (λ e. e.row_space) (a.answer-is ∙ answered-is))
      ∙ take_at (concat_map row_words rs) _ (row_length * length rs) (length-written rs formed)

  pub answered-rows : rows_in c.rows out ≡ rs
  answered-rows = rw answered-count (front-rows rs out formed front)

  pub answered-held : RowsHeld c.rows out
  answered-held = rw answered-count (front-held rs out formed front)

-- ---- of an answered evaluation

module _ (t s : List ℕ) (g : Aggregation) (ws : List ℕ) (z : Passes (evaluate_untallied t s g ws).refusal) where
  pub evaluation-checked : Passes (check t s)
  evaluation-checked = (evaluate-answered (aggregate g) (whole_table t) t s ws z).checked

  -- the rows that the row space shows are those of the query
  pub rows-stand : Bytes t
      → rows_in (evaluate_untallied t s g ws).rows (evaluate_untallied t s g ws).row_space
      ≡ rows_over (aggregate g) (facts_in (whole_table t) t) (query_node s)
  rows-stand bytes =
      rw (evaluate-answered (aggregate g) (whole_table t) t s ws z).answer-is
      (rows_in-written (rows_over (aggregate g) (facts_in (whole_table t) t) (query_node s)) _
      (ready-formed g (whole_table t) t s (record { passed = evaluation-checked; seen = refl }) bytes))
