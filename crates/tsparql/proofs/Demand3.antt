-- DEMAND 3, entire. The statement is specs/Demand3.antt; the theorem is `demand3`, on the calls as a caller sees them, for every table,
-- query and output, either choice of an aggregate, all row spaces and tallies. `demand3-over` has it for any sound aggregate and any view.
-- Assumes nothing.
use mathlib.Core.Path.{◌≡◌, refl, sym, ap, ◌∙◌}
use mathlib.Core.Bool.{Bool, true, false}
use mathlib.Core.List.{List}
use Prim.Native.Nat.{ℕ, ◌≤◌, zero-le}
use native.Mathlib.Nat.{le_trans}
use native.Mathlib.Omega.{arith}
use borrow.Author.Tests.{eqb-true, eqb-false}
use lib.ListN.{length}
use Rattle.tsparql.specs.Lists.{Every, concat_map}
use Rattle.tsparql.specs.Query.{Node}
use Rattle.tsparql.specs.Table.{Fact, View, whole_table, facts_in}
use Rattle.tsparql.specs.PatternSets.{SoundFact, SoundAggregate, Aggregate, Aggregation, aggregate, set_rows, space_over}
use Rattle.tsparql.specs.Push.{no_bound, push}
use Rattle.tsparql.specs.Reading.{query_node}
use Rattle.tsparql.specs.Check.{Passes, no_refusal, passes, table_refusal, query_refusal, evaluate_limit, check}
use Rattle.tsparql.specs.Evaluate.{row_words, capacity, padded, Evaluated, refused_with, answer, evaluate_over}
use Rattle.tsparql.specs.Rewrite.{rewrite_limit, rewriting, Accepted, written}
use Rattle.tsparql.specs.Calls.{Tally, evaluate}
use Rattle.tsparql.specs.Demand3.{AnswersNode, AnsweredAlike, Demand3}
use Rattle.tsparql.proofs.PushRows.{rows-push, space-push-≤, pairs-push-≤}
use Rattle.tsparql.proofs.RefusalLaws.{or_else-first, or_else-second}
use Rattle.tsparql.proofs.TableLaws.{table_refusal-cases, facts-sound}
use Rattle.tsparql.proofs.ChoiceLaws.{set_rows-sound}
use Rattle.tsparql.proofs.MeanLaws.{aggregate-sound}
use Rattle.tsparql.proofs.QueryLaws.{rewriting-size-≤, query_node-rewriting, query-passes, rewriting-passes}
use Rattle.tsparql.proofs.RewriteLaws.{accepted-passes, accepted-written}
use Rattle.tsparql.proofs.EvaluateLaws.{answer-fits, answer-cases, answer-passes, evaluate-checked, evaluate-refused}

-- ---- the check of both

-- a refusal of a table is 1 to 4
table_refusal-≤4 : (t : List ℕ) → (table_refusal t).number ≤ 4
table_refusal-≤4 t =
    table_refusal-cases (λ r. r.number ≤ 4) t zero-le (omega arith) (omega arith) (λ i l. (omega arith, omega arith))

-- a query that passes leaves the refusal of the table
check-passes : (t s : List ℕ) → query_refusal evaluate_limit s ≡ no_refusal → Passes (table_refusal t) → Passes (check t s)
unfolding check
check-passes t s e z = rw (or_else-second (table_refusal t) (query_refusal evaluate_limit s) z, e)

check-refuses : (t s : List ℕ) → (Passes (table_refusal t) → ⊥) → check t s ≡ table_refusal t
unfolding check
check-refuses t s z = or_else-first (table_refusal t) (query_refusal evaluate_limit s) z

-- ---- over a table that is checked

module _ (g : Aggregate) (sound : SoundAggregate g) (fs : List Fact) (facts : Every SoundFact fs) (q : Node) (words : ℕ) where
  abbrev e' : Evaluated
  e' = answer g fs q words

  abbrev r' : Evaluated
  r' = answer g fs (push no_bound q) words

  push-fits : Passes e'.refusal → space_over g fs (push no_bound q) ≤ capacity words
  push-fits z = le_trans (space-push-≤ (set_rows g fs) (set_rows-sound g sound fs facts) no_bound q) (answer-passes g fs q words z)

  answers-alike : Passes e'.refusal → AnsweredAlike e' r'
  answers-alike z =
      let same = rows-push (set_rows g fs) (set_rows-sound g sound fs facts) no_bound q in
      rw (answer-fits g fs q words (answer-passes g fs q words z), answer-fits g fs (push no_bound q) words (push-fits z))
      (record {
        no-refusal = refl;
        same_rows = ap length same;
        same-space = ap (λ rs. padded (concat_map row_words rs) words) same;
        no-more-peak = space-push-≤ (set_rows g fs) (set_rows-sound g sound fs facts) no_bound q;
        no-more-pairs = pairs-push-≤ (set_rows g fs) (set_rows-sound g sound fs facts) no_bound q;
      })

  shows-answer : (p : Node) → space_over g fs p ≤ capacity words → AnswersNode g fs p words (answer g fs p words)
  shows-answer p h =
      rw (answer-fits g fs p words h)
      (record { rows_are = refl; peak-is = refl; pairs-are = refl; words_are = refl })

  -- the push is full only where the query is
  answers-full : r'.refusal.number ≡ 8 → e'.refusal.number ≡ 8
  answers-full z =
      answer-cases g fs q words (λ e. (Passes e.refusal → AnsweredAlike e r') → e.refusal.number ≡ 8)
      (λ l alike. absurd (let y : ◌≡◌ {A = ℕ} 0 8 = sym (ap (λ a. a.number) (alike refl).no-refusal) ∙ z in omega arith))
      (λ l alike. refl) answers-alike

-- an answer is refused with 8, or not at all
answer-numbers : (P : ℕ → Type 0) (g : Aggregate) (fs : List Fact) (q : Node) (words : ℕ) → P 0 → P 8
    → P (answer g fs q words).refusal.number
answer-numbers P g fs q words none eight = answer-cases g fs q words (λ e. P e.refusal.number) (λ l. none) (λ l. eight)

-- ---- the theorem

module _ (g : Aggregate) (sound : SoundAggregate g) (v : View) (t s : List ℕ) (z : Passes (query_refusal rewrite_limit s)) where
  -- the two evaluations over a table that passes
  answers-demand3 : (words : ℕ) → Passes (table_refusal t)
      → Demand3 g v t s (rewriting s) words (answer g (facts_in v t) (query_node s) words)
      (answer g (facts_in v t) (push no_bound (query_node s)) words)
  unfolding rewriting
  answers-demand3 words table =
      let fs = facts_in v t in
      let q = query_node s in
      let facts = facts-sound v t table in
      record {
        push-written = refl;
        five-times = rewriting-size-≤ s z;
        answered-alike = answers-alike g sound fs facts q words;
        query-shows = λ p. shows-answer g sound fs facts q words q (answer-passes g fs q words p);
        written-shows = λ p. shows-answer g sound fs facts q words (push no_bound q) (push-fits g sound fs facts q words p);
        table-alike = λ l h.
            absurd (answer-numbers (λ n. 1 ≤ n → n ≤ 4 → ⊥) g fs q words (λ i k. omega arith) (λ i k. omega arith) l h);
        full-alike = answers-full g sound fs facts q words;
        never-for-query =
            answer-numbers (λ n. 5 ≤ n → n ≤ 7 → ⊥) g fs (push no_bound q) words (λ l h. omega arith) (λ l h. omega arith);
      }

  -- the two evaluations over a table that is refused
  refusals-demand3 : (words : ℕ) (ws ws' : List ℕ) → (Passes (table_refusal t) → ⊥)
      → Demand3 g v t s (rewriting s) words (refused_with (table_refusal t) ws) (refused_with (table_refusal t) ws')
  unfolding rewriting
  refusals-demand3 words ws ws' refused =
      let most = table_refusal-≤4 t in
      record {
        push-written = refl;
        five-times = rewriting-size-≤ s z;
        answered-alike = λ p. absurd (refused p);
        query-shows = λ p. absurd (refused p);
        written-shows = λ p. absurd (refused p);
        table-alike = λ l h. refl;
        full-alike = λ e. e;
        never-for-query = λ l h. omega arith;
      }

  rewriting-demand3 : (ws ws' : List ℕ) → length ws ≡ length ws'
      → Demand3 g v t s (rewriting s) (length ws) (evaluate_over g v t s ws) (evaluate_over g v t (rewriting s) ws')
  rewriting-demand3 ws ws' same = go (passes (table_refusal t)) refl
    where
      go : (b : Bool) → passes (table_refusal t) ≡ b
          → Demand3 g v t s (rewriting s) (length ws) (evaluate_over g v t s ws) (evaluate_over g v t (rewriting s) ws')
      go true e =
          let table = eqb-true (table_refusal t).number 0 e in
          rw (
            evaluate-checked g v t s ws (check-passes t s (query-passes s z) table),
            evaluate-checked g v t (rewriting s) ws' (check-passes t (rewriting s) (rewriting-passes s z) table),
            query_node-rewriting s z,
            ← same,
          )
          (answers-demand3 (length ws) table)
      go false e =
          let refused = eqb-false (table_refusal t).number 0 e in
          let first = check-refuses t s refused in
          let second = check-refuses t (rewriting s) refused in
          rw (
            evaluate-refused g v t s ws (λ p. refused (rw first at p)),
            evaluate-refused g v t (rewriting s) ws' (λ p. refused (rw second at p)),
            first,
            second,
          )
          (refusals-demand3 (length ws) ws ws' refused)

-- for any sound aggregate, one for the two evaluations, and any view
pub demand3-over : (g : Aggregate) → SoundAggregate g → (v : View) (t s out ws ws' : List ℕ) → Accepted s out → length ws ≡ length ws'
    → Demand3 g v t s (written s out) (length ws) (evaluate_over g v t s ws) (evaluate_over g v t (written s out) ws')
demand3-over g sound v t s out ws ws' a same =
    rw (accepted-written s out a) (rewriting-demand3 g sound v t s (accepted-passes s out a) ws ws' same)

-- on the calls, for every table, query and output, either choice of an aggregate, one for the two evaluations, every two row spaces of one
-- length and any two tallies
pub demand3 : (t s out : List ℕ) (g : Aggregation) (ws ws' : List ℕ) (a a' : Tally) → Accepted s out → length ws ≡ length ws'
    → Demand3 (aggregate g) (whole_table t) t s (written s out) (length ws)
    (evaluate t s g ws a).evaluated (evaluate t (written s out) g ws' a').evaluated
demand3 t s out g ws ws' a a' accepted same =
    demand3-over (aggregate g) (aggregate-sound g) (whole_table t) t s out ws ws' accepted same
