-- Truths, and conditions on a row, in the definitions' terms: the truth that a value of the code stands for, the condition that a part
-- of a query starts with, the truth of a condition by its head and its operands' truths, and the answer of a condition on a row.
-- Assumes nothing.
use Rattle.std.specs.Prelude.{◌≡◌, List, ℕ, Result, Ok, Err}
use Rattle.tsparql.specs.Values.{Cell, term, cell_at}
use Rattle.tsparql.specs.Query.{Condition, always}
use Rattle.tsparql.specs.Conditions as Conditions
use Rattle.tsparql.specs.Conditions.{not_truth, and_truth, or_truth, bound_truth, same_truth, less_truth, truth_on}
use Rattle.tsparql.specs.Reading.{Read, got, fault, read_condition}
use Rattle.tsparql.specs.WellFormed.{VariableFormed}
use Rattle.heads.specs.declared.ConditionHead.{ConditionHead}
use Rattle.heads.specs.declared.ConditionHead.TheVariants as C
use Rattle.query.specs.Parts.{map_read}
use Rattle.query.specs.Found.{IsGot}
use Rattle.conditions.specs.declared.Truth.{Truth}
use Rattle.conditions.specs.declared.Truth.TheVariants as T
use Rattle.refusals.specs.declared.Fault.{Fault}

-- the truth that a value of the code stands for
abbrev pub truth_in : Truth → Conditions.Truth
truth_in T.True = Conditions.holds
truth_in T.False = Conditions.fails
truth_in T.Error = Conditions.errs

-- ---- conditions of a query

-- the part starts with a condition
abbrev pub ConditionSound : List ℕ → Type 0
ConditionSound s = IsGot (read_condition s)

-- the condition that was found; true stands in where there is none
abbrev pub found_condition : Read Condition → Condition
found_condition (got c n) = c
found_condition (fault p) = always

-- the condition that the part starts with
abbrev pub condition_of : List ℕ → Condition
condition_of s = found_condition (read_condition s)

-- ---- heads

-- the head's variables are from 0 to 15
abbrev pub HeadFormed : ConditionHead → Type 0
HeadFormed (C.Bound v) = VariableFormed v
HeadFormed (C.Same v w) = VariableFormed v × VariableFormed w
HeadFormed (C.IsTerm v a) = VariableFormed v
HeadFormed (C.Less v w) = VariableFormed v × VariableFormed w
HeadFormed C.Not = Unit {0}
HeadFormed C.And = Unit {0}
HeadFormed C.Or = Unit {0}
HeadFormed C.True = Unit {0}

-- the truth of a condition on a row's cells, by its head and its operands' truths; those that a head has not do not matter
abbrev pub head_truth : List Cell → ConditionHead → Conditions.Truth → Conditions.Truth → Conditions.Truth
head_truth cs (C.Bound v) t u = bound_truth (cell_at cs v)
head_truth cs (C.Same v w) t u = same_truth (cell_at cs v) (cell_at cs w)
head_truth cs (C.IsTerm v a) t u = same_truth (cell_at cs v) (term a)
head_truth cs (C.Less v w) t u = less_truth (cell_at cs v) (cell_at cs w)
head_truth cs C.Not t u = not_truth t
head_truth cs C.And t u = and_truth t u
head_truth cs C.Or t u = or_truth t u
head_truth cs C.True t u = Conditions.holds

-- ---- the answer

-- the truth and the next place, or the place of the fault
abbrev pub judged_found : Result (Truth × ℕ) Fault → Read Conditions.Truth
judged_found (Ok x) = got (truth_in x.0) x.1
judged_found (Err f) = fault f.0

-- the answer is the truth of the part's condition on a row's cells, with the next place, or its first fault
pub record Judges (s : List ℕ) (cs : List Cell) (r : Result (Truth × ℕ) Fault) : Type 0 where
  pub found : judged_found r ≡ map_read (truth_on cs) (read_condition s)
