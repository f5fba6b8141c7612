-- The three truths of a condition on a row (document 01, "Rows of a node"), and what they do to a row.
-- Assumes nothing.
use Rattle.std.specs.Prelude.{Bool, true, false, ◌&&◌, cond, List, ltb}
use Rattle.tsparql.specs.Values.{Trust, known, unknown, Cell, free, term, trusted, Row, cell_at, same_cell}
use Rattle.tsparql.specs.Query.{Condition, bound, same, is_term, less, negation, conjunction, disjunction, always}

-- true, false, error
pub data Truth : Type 0 where
  holds fails errs : Truth

-- a test that cannot err
abbrev pub truth : Bool → Truth
truth true = holds
truth false = fails

-- ---- SPARQL's table

abbrev pub not_truth : Truth → Truth
not_truth holds = fails
not_truth fails = holds
not_truth errs = errs

-- one false makes it false; without one, an error makes it an error
abbrev pub and_truth : Truth → Truth → Truth
and_truth holds t = t
and_truth fails t = fails
and_truth errs holds = errs
and_truth errs fails = fails
and_truth errs errs = errs

-- one true makes it true; without one, an error makes it an error
abbrev pub or_truth : Truth → Truth → Truth
or_truth holds t = holds
or_truth fails t = t
or_truth errs holds = holds
or_truth errs fails = errs
or_truth errs errs = errs

-- ---- cells

-- true on every cell that is not free, unknown trust included; never an error
abbrev pub bound_truth : Cell → Truth
bound_truth free = fails
bound_truth (term a) = holds
bound_truth (trusted t) = holds

-- neither free nor an unknown trust
abbrev pub comparable : Cell → Bool
comparable free = false
comparable (term a) = true
comparable (trusted (known t)) = true
comparable (trusted unknown) = false

-- an error where a cell is free or its trust unknown; elsewhere whether the cells are the same
abbrev pub same_truth : Cell → Cell → Truth
same_truth c d = cond (comparable c && comparable d) (truth (same_cell c d)) errs

abbrev pub less_trust : Trust → Trust → Truth
less_trust (known a) (known b) = truth (ltb a b)
less_trust (known a) unknown = errs
less_trust unknown v = errs

-- an error unless both are known trusts
abbrev pub less_truth : Cell → Cell → Truth
less_truth free d = errs
less_truth (term a) d = errs
less_truth (trusted t) free = errs
less_truth (trusted t) (term b) = errs
less_truth (trusted t) (trusted v) = less_trust t v

-- ---- conditions

-- the truth of a condition on a row's cells
unfoldable pub truth_on : List Cell → Condition → Truth
truth_on cs (bound v) = bound_truth (cell_at cs v)
truth_on cs (same v w) = same_truth (cell_at cs v) (cell_at cs w)
truth_on cs (is_term v a) = same_truth (cell_at cs v) (term a)
truth_on cs (less v w) = less_truth (cell_at cs v) (cell_at cs w)
truth_on cs (negation c) = not_truth (truth_on cs c)
truth_on cs (conjunction c d) = and_truth (truth_on cs c) (truth_on cs d)
truth_on cs (disjunction c d) = or_truth (truth_on cs c) (truth_on cs d)
truth_on cs always = holds

abbrev pub is_true : Truth → Bool
is_true holds = true
is_true fails = false
is_true errs = false

-- the condition is true on the row
unfoldable pub true_on : Condition → Row → Bool
true_on c r = is_true (truth_on r.cells c)
