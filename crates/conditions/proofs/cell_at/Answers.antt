-- `cell_at` reads the word of a variable of the first row. Assumes nothing.
use mathlib.Core.Path.{sym, ap, ◌∙◌}
use lib.ListN.{take}
use lib.Seq.{get_or-take}
use Rattle.tsparql.specs.Evaluate.{row_length}
use Rattle.cells.specs.Words.{word_cell}
use Rattle.rows.proofs.RowWordLaws.{cell_at-row_in}
use borrow.Author.Rules.{rules}
use Rattle.conditions.proofs.cell_at.Goals as goal

pub returns : goal.returns
returns c =
    let ws = c.args.row.now in
    let v = c.args.v in
    let word = get_or-take row_length ws v 0 (search rules) in
    c.word_cell.ensures.cell ∙ sym (cell_at-row_in (take row_length ws) v (search rules) ∙ ap word_cell word)
