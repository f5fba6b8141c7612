-- The report of an evaluation: by its refusal; and the rows that it lists, read back from the row space. Assumes nothing.
use mathlib.Core.Path.{◌≡◌, refl, ap}
use mathlib.Core.Bool.{Bool, true, false, cond}
use mathlib.Core.List.{List, ◌++◌}
use Prim.Native.Nat.{ℕ, ◌*◌, ◌≤◌, ◌<◌}
use native.Mathlib.Omega.{arith}
use borrow.Author.Tests.{eqb-true, eq-eqb, ne_eqb, lt-ltb, le-ltb}
use lib.ListN.{length, replicate, length-append}
use Rattle.tsparql.specs.Lists.{concat_map, Every}
use Rattle.tsparql.specs.Values.{Row}
use Rattle.tsparql.specs.Table.{whole_table, facts_in}
use Rattle.tsparql.specs.PatternSets.{by_least, aggregate, rows_over}
use Rattle.tsparql.specs.Reading.{query_node}
use Rattle.tsparql.specs.Check.{refuse, Passes, passes, check}
use Rattle.tsparql.specs.Evaluate.{row_length, Evaluated}
use Rattle.tsparql.specs.Calls.{evaluate_untallied, Tally, EvaluateAnswer, evaluate}
use Rattle.tsparql.specs.Strikes.{row_line, refused_line, counts_line, report, facts_limit, program_rows, strikes}
use Rattle.tsparql.proofs.EvaluateLaws.{evaluate-answered}
use Rattle.tsparql.specs.WellFormed.{Bytes}
use Rattle.rows.specs.RowWords.{rows_in, RowFormed}
use Rattle.rows.proofs.RowWordLaws.{length-written}
use Rattle.randwyler.proofs.AnsweredRows.{ready-formed, rows-stand}

-- ---- by the refusal

pub report-answered : (x : Evaluated) (rs : List Row) → Passes x.refusal → report x rs ≡ counts_line x ++ concat_map row_line rs
unfolding report
report-answered x rs z = rw (eq-eqb x.refusal.number 0 z)

pub report-refused : (x : Evaluated) (rs : List Row) → (Passes x.refusal → ⊥) → report x rs ≡ refused_line x.refusal
unfolding report
report-refused x rs z = rw (ne_eqb x.refusal.number 0 z)

-- rows that are the same where there is no refusal
report-same : (x : Evaluated) (rs ss : List Row) → (Passes x.refusal → rs ≡ ss) → report x rs ≡ report x ss
unfolding report
report-same x rs ss h = go (passes x.refusal) (λ e. h (eqb-true x.refusal.number 0 e))
  where
    go : (b : Bool) → (b ≡ true → rs ≡ ss)
        → cond b (counts_line x ++ concat_map row_line rs) (refused_line x.refusal)
        ≡ cond b (counts_line x ++ concat_map row_line ss) (refused_line x.refusal)
    go true k = rw (k refl)
    go false k = refl

-- ---- the rows in the row space

-- the rows that a query lists, by least trust
abbrev pub listed : List ℕ → List ℕ → List Row
listed t s = rows_over (aggregate by_least) (facts_in (whole_table t) t) (query_node s)

pub listed-formed : (t s : List ℕ) → Bytes t → Passes (check t s) → Every RowFormed (listed t s)
listed-formed t s bytes z = ready-formed by_least (whole_table t) t s (record { passed = z; seen = refl }) bytes

module _ (t s ws : List ℕ) (bytes : Bytes t) where
  rows-room : Passes (evaluate_untallied t s by_least ws).refusal
      → row_length * (evaluate_untallied t s by_least ws).rows ≤ length (evaluate_untallied t s by_least ws).row_space
  rows-room z =
      let a = evaluate-answered (aggregate by_least) (whole_table t) t s ws z in
      rw (a.answer-is, length-append, length-written (listed t s) (listed-formed t s bytes a.checked)) (omega arith)

  -- a call's answer, whatever its tally
  module _ (a : Tally) (x : EvaluateAnswer) (e : x ≡ evaluate t s by_least ws a) where
    evaluated-is : x.evaluated ≡ evaluate_untallied t s by_least ws
    evaluated-is = ap (λ y. y.evaluated) e

    pub answer-room : Passes x.evaluated.refusal → row_length * x.evaluated.rows ≤ length x.evaluated.row_space
    answer-room z = rw evaluated-is (rows-room (rw evaluated-is at z))

    pub answer-report : report x.evaluated (rows_in x.evaluated.rows x.evaluated.row_space)
        ≡ report (evaluate_untallied t s by_least ws) (listed t s)
    answer-report =
        rw evaluated-is (report-same (evaluate_untallied t s by_least ws)
        (rows_in (evaluate_untallied t s by_least ws).rows (evaluate_untallied t s by_least ws).row_space) (listed t s)
        (λ z. rows-stand t s by_least ws z bytes))

-- ---- the whole text

pub long-facts : (t s : List ℕ) → facts_limit < length t → strikes t s ≡ refused_line (refuse 2 0)
unfolding strikes
long-facts t s h = rw (lt-ltb facts_limit (length t) h)

pub evaluated-facts : (t s : List ℕ) → length t ≤ facts_limit
    → strikes t s
    ≡ report (evaluate_untallied t s by_least (replicate (row_length * program_rows) 0)) (listed t s)
unfolding strikes
evaluated-facts t s h = rw (le-ltb facts_limit (length t) h)
