-- Evaluation by the answers of its parts: what was refused by the check, and the answer to what passed it. Assumes nothing.
use mathlib.Core.Path.{◌≡◌, sym, subst, ◌∙◌}
use mathlib.Core.Bool.{false}
use mathlib.Core.List.{List}
use Prim.Native.Nat.{ℕ, ◌≤◌}
use borrow.Author.Tests.{eqb-false}
use lib.ListN.{length}
use Rattle.tsparql.specs.Table.{View, whole_table, facts_in}
use Rattle.tsparql.specs.Check.{passes, check, evaluate_limit}
use Rattle.tsparql.specs.Reading.{query_node}
use Rattle.tsparql.specs.PatternSets.{Aggregate, Aggregation, aggregate}
use Rattle.tsparql.specs.Evaluate.{refused_with, answer}
use Rattle.tsparql.specs.Calls.{Tally, raise_one, tallied, EvaluateAnswer, evaluate}
use Rattle.tsparql.proofs.QueryLaws.{query-checked, check-parts}
use Rattle.tsparql.proofs.EvaluateLaws.{evaluate-checked, evaluate-refused}
use Rattle.query.specs.Found.{NodeSound, node_of}
use Rattle.query.proofs.Forest.{query-reads}
use Rattle.patterns.specs.Sets.{Seen}
use Rattle.evaluation.specs.Evaluations.{is_answered, answered_in, Answers}
use Rattle.evaluation.specs.declared.QueryRows.{QueryRows}
use Rattle.std.specs.Prelude.{Result, Err}
use Rattle.refusals.specs.declared.Refused.{Refused}
use Rattle.refusals.specs.Refusals.{refusal_of}
use Rattle.randwyler.specs.Answers.{Checked, Ready}
use Rattle.randwyler.proofs.Checks.{whole-seen}

-- ---- what was checked

pub ready-seen : (v : View) (t s : List ℕ) → Ready v t s → Seen v t
ready-seen v t s h = subst (λ w. Seen w t) (sym h.seen) (whole-seen t (check-parts t s h.passed).0)

pub ready-node : (v : View) (t s : List ℕ) → Ready v t s → NodeSound s × (node_of s ≡ query_node s) × (length s ≤ evaluate_limit)
ready-node v t s h =
    let c = query-checked evaluate_limit s (check-parts t s h.passed).1 in
    let reads = query-reads s (rw c.read tt) in
    (rw reads.1 tt, rw reads.1, c.short)

-- ---- the tally

-- the answer to a checked query, with the tally
abbrev pub answered : Aggregate → View → List ℕ → List ℕ → Tally → ℕ → EvaluateAnswer
answered g v t s a words =
    let e = answer g (facts_in v t) (query_node s) words in record { evaluated = e; tally = tallied a e.refusal }

pub counted : (g : Aggregate) (v : View) (t s : List ℕ) (a : Tally) (ws out : List ℕ) (r : Result QueryRows Refused) → Ready v t s
    → Answers g (facts_in v t) (node_of s) (length ws) out r
    → record { evaluated = answered_in r out; tally = raise_one (is_answered r) a } ≡ answered g v t s a (length ws)
unfolding tallied
counted g v t s a ws out r h e =
    let is = (ready-node v t s h).1 in
    let here : answered_in r out ≡ answer g (facts_in v t) (query_node s) (length ws) = rw is at e.answer-is in
    let told : is_answered r ≡ passes (answer g (facts_in v t) (query_node s) (length ws)).refusal = rw is at e.sound in
    rw (here, told)

-- ---- the call

pub evaluate-refuses : (t s : List ℕ) (g : Aggregation) (ws : List ℕ) (a : Tally) {r : Refused} → Checked t s (Err r)
    → ◌≡◌ {A = EvaluateAnswer} (record { evaluated = refused_with (refusal_of r) ws; tally = raise_one false a }) (evaluate t s g ws a)
unfolding tallied
evaluate-refuses t s g ws a h =
    let no = sym h.sound in
    let refused = evaluate-refused (aggregate g) (whole_table t) t s ws (eqb-false (check t s).number 0 no) in
    rw (refused, h.refusal, no)

-- by the choice g, or what is the same choice
pub evaluate-answers : (v : View) (t s : List ℕ) (g : Aggregation) (ws : List ℕ) (a : Tally) → Ready v t s → {same : Aggregation}
    → same ≡ g → (x : EvaluateAnswer) → x ≡ answered (aggregate same) v t s a (length ws) → x ≡ evaluate t s g ws a
evaluate-answers v t s g ws a h is x e =
    e ∙ rw (is, evaluate-checked (aggregate g) (whole_table t) t s ws h.passed, h.seen)
