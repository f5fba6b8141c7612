-- Totals by the answers of their parts: the answer to the checked query and the entries of its rows; then the check and the variable.
-- Assumes nothing.
use mathlib.Core.Path.{◌≡◌, sym, ap, ◌∙◌}
use mathlib.Core.Bool.{true, false, cond}
use mathlib.Core.List.{List}
use Prim.Native.Nat.{ℕ, ◌≤◌, ◌<◌}
use borrow.Author.Tests.{eqb-false, le-leb, lt-leb}
use lib.Dec.{leb}
use lib.ListN.{length}
use Rattle.tsparql.specs.Lists.{Every}
use Rattle.tsparql.specs.Query.{Node}
use Rattle.tsparql.specs.Table.{Fact, View, whole_table, facts_in}
use Rattle.tsparql.specs.PatternSets.{Aggregate, Aggregation, aggregate, rows_over}
use Rattle.tsparql.specs.Check.{refuse, no_refusal, Passes, passes, check}
use Rattle.tsparql.specs.Reading.{query_node}
use Rattle.tsparql.specs.Evaluate.{refused_with, answer}
use Rattle.tsparql.specs.Calls.{Tally, raise_one, tallied}
use Rattle.tsparql.specs.Totals.{Totals, TotalsAnswer, totals_words, totals_refused, totals_written, totals_call}
use Rattle.tsparql.proofs.EvaluateLaws.{evaluate-checked}
use Rattle.tsparql.proofs.TotalsLaws.{after-refused, after-short, after-written}
use Rattle.tsparql.proofs.TotalsLaws.{totals-check-refuses, totals-variable, totals-evaluated}
use Rattle.rows.specs.RowWords.{rows_in, RowFormed}
use Rattle.evaluation.specs.Evaluations.{Answers}
use Rattle.evaluation.specs.declared.QueryRows.{QueryRows}
use Rattle.std.specs.Prelude.{Ok, Err}
use Rattle.refusals.specs.declared.Refused.{Refused}
use Rattle.refusals.specs.Refusals.{refusal_of}
use Rattle.totals.specs.Entries.{entered, Entered}
use Rattle.randwyler.specs.Answers.{Checked, Ready, no_totals, totals_checked}
use Rattle.randwyler.proofs.AnsweredRows.{answered-rows}

-- ---- a checked query

-- it is refused
pub totals-refused : (g : Aggregate) (fs : List Fact) (q : Node) (u words : ℕ) (a : Tally) (ws out : List ℕ) {r : Refused}
    → Answers g fs q words ws (Err r) → no_totals (refusal_of r) ws out a ≡ totals_checked g fs q u words out a
unfolding tallied
totals-refused g fs q u words a ws out {r} e =
    let es = totals_words u (rows_over g fs q) in
    let no : passes (refusal_of r) ≡ false = ap (λ y. passes y.refusal) e.answer-is ∙ sym e.sound in
    let x = after-refused es out (refused_with (refusal_of r) ws) (eqb-false (refusal_of r).number 0 no) in
    rw (sym e.answer-is, x, no)

-- it is answered, and the entries of its rows are told and, where they fit, written
module _ {g : Aggregate} {fs : List Fact} {q : Node} {words : ℕ} {ws : List ℕ} {c : QueryRows} (u : ℕ) (a : Tally) (out : List ℕ)
    {out' : List ℕ} {m : ℕ} (formed : Every RowFormed (rows_over g fs q)) (e : Answers g fs q words ws (Ok c))
    (t : Entered u (rows_in c.rows ws) out out' m) where
  abbrev es : List ℕ
  es = totals_words u (rows_over g fs q)

  size_is : m ≡ length es
  size_is = t.size ∙ ap (λ rs. length (totals_words u rs)) (answered-rows formed e)

  output-is : out' ≡ cond (leb (length es) (length out)) (entered u (rows_over g fs q) out) out
  output-is =
      t.output
      ∙ ap (λ rs. cond (leb (length (totals_words u rs)) (length out)) (entered u rs out) out) (answered-rows formed e)

  space-is : ws ≡ (answer g fs q words).row_space
  space-is = ap (λ y. y.row_space) e.answer-is

  passed : Passes (answer g fs q words).refusal
  passed = ap (λ y. y.refusal.number) (sym e.answer-is)

  -- with the tally
  abbrev counted : Totals → TotalsAnswer
  counted x = record { totals = x; tally = tallied a x.refusal }

  pub totals-short : length out < m → no_totals (refuse 10 m) ws out' a ≡ totals_checked g fs q u words out a
  unfolding tallied
  totals-short h =
      let less : length out < length es = rw size_is at h in
      let same : out' ≡ out = output-is ∙ rw (lt-leb (length es) (length out) less) in
      let here : totals_refused (refuse 10 m) ws out' ≡ totals_refused (refuse 10 (length es)) (answer g fs q words).row_space out =
      rw (same, size_is, space-is) in
      ap counted (here ∙ sym (after-short es out (answer g fs q words) passed less))

  pub totals-written : m ≤ length out → ◌≡◌ {A = TotalsAnswer}
      (record { totals = record { refusal = no_refusal; size = m; row_space = ws; output = out' }; tally = raise_one true a })
      (totals_checked g fs q u words out a)
  unfolding tallied
  totals-written h =
      let fits : length es ≤ length out = rw size_is at h in
      let new : out' ≡ entered u (rows_over g fs q) out = output-is ∙ rw (le-leb (length es) (length out) fits) in
      let here : ◌≡◌ {A = Totals} (record { refusal = no_refusal; size = m; row_space = ws; output = out' })
      (totals_written es (answer g fs q words).row_space out) = rw (new, size_is, space-is) in
      ap counted (here ∙ sym (after-written es out (answer g fs q words) passed fits))

-- ---- the call

pub call-check-refuses : (t s : List ℕ) (g : Aggregation) (u : ℕ) (ws out : List ℕ) (a : Tally) {r : Refused} → Checked t s (Err r)
    → no_totals (refusal_of r) ws out a ≡ totals_call t s g u ws out a
unfolding tallied
call-check-refuses t s g u ws out a h =
    let no : passes (check t s) ≡ false = sym h.sound in
    let x = totals-check-refuses (aggregate g) (whole_table t) t s u ws out (eqb-false (check t s).number 0 no) in
    rw (x, h.refusal, no)

module _ (v : View) (t s : List ℕ) (g : Aggregation) (u : ℕ) (ws out : List ℕ) (a : Tally) (h : Ready v t s) where
  pub call-variable : 15 < u → no_totals (refuse 10 0) ws out a ≡ totals_call t s g u ws out a
  unfolding tallied
  call-variable l = rw (totals-variable (aggregate g) (whole_table t) t s u ws out h.passed l)

  -- by the choice g, or what is the same choice
  pub call-answered : {same : Aggregation} → same ≡ g → u ≤ 15
      → totals_checked (aggregate same) (facts_in v t) (query_node s) u (length ws) out a ≡ totals_call t s g u ws out a
  call-answered chosen l =
      let is = totals-evaluated (aggregate g) (whole_table t) t s u ws out l in
      rw (chosen, is, evaluate-checked (aggregate g) (whole_table t) t s ws h.passed, h.seen)
