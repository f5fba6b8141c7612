-- Totals for each cell of a variable (document 02, request 1): the groups of rows, their entries, the call that writes them to a lent
-- output, and what must hold of it beside an evaluation. Assumes nothing.
use Rattle.std.specs.Prelude.{◌≡◌, cond, List, [], ◌∷◌, ◌++◌, map, ℕ, zero, suc, ◌+◌, ◌/◌, ◌≤◌, ◌<◌, min, ltb, length, take, drop, get_or}
use Rattle.tsparql.specs.Lists.{keep_if, distinct_by, concat_map}
use Rattle.tsparql.specs.Values.{Trust, known, Cell, Row, cell_at, lesser, same_cell}
use Rattle.tsparql.specs.Table.{View, whole_table, facts_in}
use Rattle.tsparql.specs.PatternSets.{Aggregate, Aggregation, aggregate, rows_over}
use Rattle.tsparql.specs.Reading.{query_node}
use Rattle.tsparql.specs.Check.{Refusal, refuse, no_refusal, refuse_if, Passes, passes, or_else, check}
use Rattle.tsparql.specs.Evaluate.{cell_word, trust_word, Evaluated, evaluate_unless}
use Rattle.tsparql.specs.Calls.{Tally, tallied}

-- ---- groups

-- a cell, how many rows have it, and their least trust
pub record Group : Type 0 where
  pub cell : Cell
  pub count : ℕ
  pub trust : Trust

-- the row's cell of a variable
abbrev pub cell_of : ℕ → Row → Cell
cell_of u r = cell_at r.cells u

-- the different cells of a variable in order of first appearance; free is one like any other
abbrev pub different_cells : ℕ → List Row → List Cell
different_cells u rs = distinct_by same_cell (map (cell_of u) rs)

-- the rows that have the cell
abbrev pub rows_with : ℕ → Cell → List Row → List Row
rows_with u c rs = keep_if (λ r. same_cell c (cell_of u r)) rs

-- the least trust of rows, unknown if one is; of none 1000, but a group is never empty
unfoldable pub least_trust : List Row → Trust
least_trust [] = known 2000
least_trust (r ∷ rs) = lesser r.trust (least_trust rs)

abbrev pub group_of : ℕ → List Row → Cell → Group
group_of u rs c = record { cell = c; count = length (rows_with u c rs); trust = least_trust (rows_with u c rs) }

-- a group for each different cell
unfoldable pub groups : ℕ → List Row → List Group
groups u rs = map (group_of u rs) (different_cells u rs)

-- ---- entries

-- how many words a group has: its cell, its count, its trust
abbrev pub group_length : ℕ
group_length = 3

-- cell and trust as in a row
abbrev pub group_words : Group → List ℕ
group_words g = cell_word g.cell ∷ g.count ∷ trust_word g.trust ∷ []

-- the entries of rows
unfoldable pub totals_words : ℕ → List Row → List ℕ
totals_words u rs = concat_map group_words (groups u rs)

-- the sum of the counts of n entries
unfoldable pub counts_in : ℕ → List ℕ → ℕ
counts_in zero ws = 0
counts_in (suc n) ws = get_or ws 1 0 + counts_in n (drop group_length ws)

-- ---- the call

-- how many words are written; and what the row space and the output hold at the end
pub record Totals : Type 0 where
  pub refusal : Refusal
  pub size : ℕ
  pub row_space : List ℕ
  pub output : List ℕ

-- 10, a variable above 15
abbrev pub variable_refusal : ℕ → Refusal
variable_refusal u = refuse_if (ltb 15 u) 10 0

-- 10, an output that is shorter than the entries
abbrev pub output_refusal : List ℕ → List ℕ → Refusal
output_refusal es out = refuse_if (ltb (length out) (length es)) 10 (length es)

-- a refusal: nothing is written
abbrev pub totals_refused : Refusal → List ℕ → List ℕ → Totals
totals_refused r ws out = record { refusal = r; size = 0; row_space = ws; output = out }

-- the entries at the front of the output, the rest of it unchanged
abbrev pub totals_written : List ℕ → List ℕ → List ℕ → Totals
totals_written es ws out = record { refusal = no_refusal; size = length es; row_space = ws; output = es ++ drop (length es) out }

-- after an evaluation: refused where it is, or else where the output is too short; the row space as the evaluation left it
abbrev pub totals_after : Evaluated → List ℕ → List ℕ → Totals
totals_after e es out =
    let r = or_else e.refusal (output_refusal es out) in
    cond (passes r) (totals_written es e.row_space out) (totals_refused r e.row_space out)

-- without a tally
unfoldable pub totals_over : Aggregate → View → List ℕ → List ℕ → ℕ → List ℕ → List ℕ → Totals
totals_over g v t s u ws out =
    totals_after (evaluate_unless (variable_refusal u) g v t s ws) (totals_words u (rows_over g (facts_in v t) (query_node s))) out

-- of a whole table by the aggregate that the caller chooses
abbrev pub totals_untallied : List ℕ → List ℕ → Aggregation → ℕ → List ℕ → List ℕ → Totals
totals_untallied t s g u ws out = totals_over (aggregate g) (whole_table t) t s u ws out

-- the totals, and the tally that they give back
pub record TotalsAnswer : Type 0 where
  pub totals : Totals
  pub tally : Tally

-- the call: table, query, choice, variable, row space, output, tally
abbrev pub totals_call : List ℕ → List ℕ → Aggregation → ℕ → List ℕ → List ℕ → Tally → TotalsAnswer
totals_call t s g u ws out a =
    record { totals = totals_untallied t s g u ws out; tally = tallied a (totals_untallied t s g u ws out).refusal }

-- ---- what must hold of it

-- x are the totals of a query by variable u in the row space ws and an output, e is an evaluation of the query over the same table in a
-- row space of the same length, and rs are the query's rows
pub record TotalsBeside (t s : List ℕ) (u : ℕ) (rs : List Row) (ws out : List ℕ) (x : Totals) (e : Evaluated) : Type 0 where
  -- 1. refusals in their order: the check's, 10 for the variable, 8 as the evaluation has it, 10 for the output
  pub as-checked : (Passes (check t s) → ⊥) → x.refusal ≡ check t s
  pub variable-above : Passes (check t s) → 15 < u → x.refusal ≡ refuse 10 0
  pub as-evaluated : u ≤ 15 → (Passes e.refusal → ⊥) → x.refusal ≡ e.refusal
  pub output-short : u ≤ 15 → Passes e.refusal → length out < length (totals_words u rs)
      → x.refusal ≡ refuse 10 (length (totals_words u rs))
  pub answered : u ≤ 15 → Passes e.refusal → length (totals_words u rs) ≤ length out → x.refusal ≡ no_refusal
  -- 2. an answer tells the length of the entries, which stand at the front of the output, and the sum of their counts is how many rows
  -- the evaluation has
  pub size_is : Passes x.refusal → x.size ≡ length (totals_words u rs)
  pub entries-written : Passes x.refusal → take x.size x.output ≡ totals_words u rs
  pub counts-add-up : Passes x.refusal → counts_in (x.size / group_length) x.output ≡ e.rows
  -- 3. of the groups whose entries these are, one has a cell that some row has, and none has any other
  pub in-one-group : (c : Cell) → length (keep_if (λ y. same_cell c y.cell) (groups u rs)) ≡ min 1 (length (rows_with u c rs))
  -- 4. what the output held is still there behind the entries, and on a refusal everywhere
  pub rest-unchanged : drop x.size x.output ≡ drop x.size out
  pub none_written : (Passes x.refusal → ⊥) → (x.size ≡ 0) × (x.output ≡ out)
  -- 5. where the check passes and the variable is one of the 16 the row space is that of the evaluation, whatever the output; else it is
  -- untouched
  pub space-as-evaluated : Passes (check t s) → u ≤ 15 → x.row_space ≡ e.row_space
  pub space-untouched : (Passes (check t s) → u ≤ 15 → ⊥) → x.row_space ≡ ws
