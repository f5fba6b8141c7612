-- The calls evaluate and ceiling as a caller sees them, and the tally (document 01, "Ceiling and tally").
-- The calls check, rewrite and totals stand in Check, Rewrite and Totals, runs of calls in Runs. Assumes nothing.
use Rattle.std.specs.Prelude.{Bool, true, false, cond, List, ℕ, ◌+◌, min}
use Rattle.tsparql.specs.Table.{View, whole_table, facts_in}
use Rattle.tsparql.specs.PatternSets.{Aggregation, aggregate}
use Rattle.tsparql.specs.Ceiling.{greatest32, exact_figure, ceiling_of}
use Rattle.tsparql.specs.Reading.{query_node}
use Rattle.tsparql.specs.Check.{Refusal, no_refusal, passes, check}
use Rattle.tsparql.specs.Evaluate.{Evaluated, evaluate_over}

-- ---- evaluation of a whole table by the aggregate that the caller chooses

-- without a tally
abbrev pub evaluate_untallied : List ℕ → List ℕ → Aggregation → List ℕ → Evaluated
evaluate_untallied t s g ws = evaluate_over (aggregate g) (whole_table t) t s ws

-- how many calls were answered, and how many refused
pub record Tally : Type 0 where
  pub answered : ℕ
  pub refused : ℕ

-- one more, stopping at 4,294,967,295
abbrev pub raised : ℕ → ℕ
raised n = min (n + 1) greatest32

-- answered raised by 1 where the test passed, else refused
abbrev pub raise_one : Bool → Tally → Tally
raise_one true a = record { answered = raised a.answered; refused = a.refused }
raise_one false a = record { answered = a.answered; refused = raised a.refused }

unfoldable pub tallied : Tally → Refusal → Tally
tallied a r = raise_one (passes r) a

-- an evaluation's answer, and the tally that it gives back
pub record EvaluateAnswer : Type 0 where
  pub evaluated : Evaluated
  pub tally : Tally

-- the call: table, query, choice, row space, tally
abbrev pub evaluate : List ℕ → List ℕ → Aggregation → List ℕ → Tally → EvaluateAnswer
evaluate t s g ws a =
    record { evaluated = evaluate_untallied t s g ws; tally = tallied a (evaluate_untallied t s g ws).refusal }

-- ---- ceiling

pub record CeilingAnswer : Type 0 where
  pub refusal : Refusal
  pub ceiling : ℕ

abbrev pub ceiling_answered : ℕ → CeilingAnswer
ceiling_answered n = record { refusal = no_refusal; ceiling = n }

abbrev pub ceiling_refused : Refusal → CeilingAnswer
ceiling_refused r = record { refusal = r; ceiling = 0 }

-- refusals as in check, with ceiling 0
unfoldable pub ceiling_over : View → List ℕ → List ℕ → CeilingAnswer
ceiling_over v t s =
    let r = check t s in
    cond (passes r) (ceiling_answered (ceiling_of (exact_figure (facts_in v t)) (query_node s))) (ceiling_refused r)

-- the call
abbrev pub ceiling_call : List ℕ → List ℕ → CeilingAnswer
ceiling_call t s = ceiling_over (whole_table t) t s
