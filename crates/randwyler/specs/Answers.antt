-- The answers of the calls, in the definitions' terms. Assumes nothing.
use Rattle.std.specs.Prelude.{◌≡◌, Bool, true, false, cond, List, ℕ, length, Result, IfOk}
use Rattle.tsparql.specs.Table as Table
use Rattle.tsparql.specs.Table.{Fact, whole_table, facts_in}
use Rattle.tsparql.specs.Query.{Node}
use Rattle.tsparql.specs.Check as Check
use Rattle.tsparql.specs.Check.{refuse, Passes, passes, check}
use Rattle.tsparql.specs.Rewrite as Rewrite
use Rattle.tsparql.specs.Calls as Calls
use Rattle.tsparql.specs.Calls.{raise_one, tallied}
use Rattle.tsparql.specs.Totals as Totals
use Rattle.tsparql.specs.Totals.{totals_words, totals_refused, totals_after}
use Rattle.tsparql.specs.Evaluate as Evaluate
use Rattle.tsparql.specs.Evaluate.{refused_with, answer}
use Rattle.tsparql.specs.PatternSets.{Aggregate, Aggregation, by_least, by_mean, rows_over}
use Rattle.tsparql.specs.Reading.{query_node}
use Rattle.refusals.specs.declared.Refused.{Refused}
use Rattle.refusals.specs.Refusals as Refusals
use Rattle.table.specs.declared.checked.Table as Code
use Rattle.table.specs.Answers.{no_records, sound_in, view_in}
use Rattle.randwyler.specs.declared.Refusal.{Refusal}
use Rattle.randwyler.specs.declared.Rewritten.{Rewritten}
use Rattle.randwyler.specs.declared.Ceiling.{Ceiling}
use Rattle.randwyler.specs.declared.Tally.{Tally}
use Rattle.randwyler.specs.declared.Evaluated.{Evaluated}
use Rattle.randwyler.specs.declared.Totalled.{Totalled}

-- ---- the check of both

-- the answer names the refusal of a table and a query, and lets a call see the whole table exactly where there is none
pub record Checked (t s : List ℕ) (r : Result Code.Table Refused) : Type 0 where
  pub sound : sound_in r ≡ passes (check t s)
  pub refusal : Refusals.refusal_in r ≡ check t s
  pub view : view_in r ≡ cond (passes (check t s)) (whole_table t) no_records
  pub bytes : IfOk r (λ x. x.bytes.now ≡ t)

-- ---- the calls

-- number and place of an answer
abbrev pub refusal_in : Refusal → Check.Refusal
refusal_in r = refuse r.number r.place

-- number, place and length of an answer, and the output at the end
abbrev pub rewritten_in : Rewritten → List ℕ → Rewrite.Rewritten
rewritten_in r out = record { refusal = refuse r.number r.place; size = r.length; output = out }

-- number, place and ceiling of an answer
abbrev pub ceiling_in : Ceiling → Calls.CeilingAnswer
ceiling_in r = record { refusal = refuse r.number r.place; ceiling = r.ceiling }

-- ---- evaluation

-- the choice that a caller's flag stands for
abbrev pub chosen : Bool → Aggregation
chosen true = by_mean
chosen false = by_least

abbrev pub tally_in : Tally → Calls.Tally
tally_in a = record { answered = a.answered; refused = a.refused }

-- refusal and counts of an answer, with the row space at the end, and the tally
abbrev pub evaluated_in : Evaluated → List ℕ → Calls.EvaluateAnswer
evaluated_in r ws =
    record {
      evaluated =
          record { refusal = refuse r.number r.place; rows = r.rows; peak = r.peak; pairs = r.pairs; row_space = ws };
      tally = tally_in r.tally;
    }

-- a refusal with all counts 0, counted as refused; the row space is whatever it is
abbrev pub RefusedWith : Check.Refusal → Calls.Tally → Evaluated → Type 0
RefusedWith n a r = (ws : List ℕ) → evaluated_in r ws ≡ record { evaluated = refused_with n ws; tally = raise_one false a }

-- a table and a query that passed the check
pub record Ready (v : Table.View) (t s : List ℕ) : Type 0 where
  pub passed : Passes (check t s)
  pub seen : v ≡ whole_table t

-- the answer to a checked query, counted by its refusal
abbrev pub Answered : Aggregate → Table.View → List ℕ → List ℕ → Calls.Tally → List ℕ → List ℕ → Evaluated → Type 0
Answered g v t s a ws out r =
    let e : Evaluate.Evaluated = answer g (facts_in v t) (query_node s) (length ws) in
    evaluated_in r out ≡ record { evaluated = e; tally = tallied a e.refusal }

-- ---- totals

-- refusal and length of an answer, with the row space and the output at the end, and the tally
abbrev pub totals_in : Totalled → List ℕ → List ℕ → Totals.TotalsAnswer
totals_in r ws out =
    record {
      totals = record { refusal = refuse r.number r.place; size = r.length; row_space = ws; output = out };
      tally = tally_in r.tally;
    }

-- a refusal with length 0, counted as refused
abbrev pub no_totals : Check.Refusal → List ℕ → List ℕ → Calls.Tally → Totals.TotalsAnswer
no_totals n ws out a = record { totals = totals_refused n ws out; tally = raise_one false a }

-- such an answer; row space and output are whatever they are
abbrev pub TotalsRefusedWith : Check.Refusal → Calls.Tally → Totalled → Type 0
TotalsRefusedWith n a r = (ws out : List ℕ) → totals_in r ws out ≡ no_totals n ws out a

-- the totals of a checked query in so many words of row space, counted by their refusal
abbrev pub totals_checked : Aggregate → List Fact → Node → ℕ → ℕ → List ℕ → Calls.Tally → Totals.TotalsAnswer
totals_checked g fs q u words out a =
    let x : Totals.Totals = totals_after (answer g fs q words) (totals_words u (rows_over g fs q)) out in
    record { totals = x; tally = tallied a x.refusal }

-- the answer is these totals
abbrev pub TotalsAnswered : Aggregate → Table.View → List ℕ → List ℕ → ℕ → List ℕ → List ℕ → Calls.Tally → List ℕ → List ℕ → Totalled
    → Type 0
TotalsAnswered g v t s u ws out a ws' out' r = totals_in r ws' out' ≡ totals_checked g (facts_in v t) (query_node s) u (length ws) out a
