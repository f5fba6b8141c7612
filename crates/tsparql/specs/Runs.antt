-- A run of calls that take a tally, each given the tally that the last one gave back: evaluations and totals in any order.
-- Assumes nothing.
use Rattle.std.specs.Prelude.{not, List, [], ◌∷◌, ℕ, length}
use Rattle.tsparql.specs.Lists.{keep_if}
use Rattle.tsparql.specs.PatternSets.{Aggregation}
use Rattle.tsparql.specs.Check.{Refusal, passes}
use Rattle.tsparql.specs.Calls.{evaluate_untallied, Tally, evaluate}
use Rattle.tsparql.specs.Totals.{totals_untallied, totals_call}

-- what an evaluation takes besides the tally
pub record Request : Type 0 where
  pub table : List ℕ
  pub query : List ℕ
  pub aggregation : Aggregation
  pub row_space : List ℕ

-- a call that takes a tally; totals have a variable and an output of their own
pub data TalliedCall : Type 0 where
  an_evaluation : Request → TalliedCall
  a_totals : Request → ℕ → List ℕ → TalliedCall

abbrev pub call_refusal : TalliedCall → Refusal
call_refusal (an_evaluation e) = (evaluate_untallied e.table e.query e.aggregation e.row_space).refusal
call_refusal (a_totals e u out) = (totals_untallied e.table e.query e.aggregation u e.row_space out).refusal

-- how many calls of a list are answered, and how many refused
abbrev pub answered_count : List TalliedCall → ℕ
answered_count cs = length (keep_if (λ c. passes (call_refusal c)) cs)

abbrev pub refused_count : List TalliedCall → ℕ
refused_count cs = length (keep_if (λ c. not (passes (call_refusal c))) cs)

-- the tally that a call gives back
abbrev pub tally_after : Tally → TalliedCall → Tally
tally_after a (an_evaluation e) = (evaluate e.table e.query e.aggregation e.row_space a).tally
tally_after a (a_totals e u out) = (totals_call e.table e.query e.aggregation u e.row_space out a).tally

-- the tally at the end of a run
unfoldable pub run : Tally → List TalliedCall → Tally
run a [] = a
run a (c ∷ cs) = run (tally_after a c) cs

abbrev pub zero_tally : Tally
zero_tally = record { answered = 0; refused = 0 }
