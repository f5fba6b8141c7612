-- After v turns the text of the first v variables is written. Assumes nothing.
use Rattle.text.specs.Writing.{Prints}
use Rattle.text.proofs.RowText.{cells_below}
use Rattle.text.proofs.Page.put_cells.Given as goal

abbrev pub invariant-loop-v : goal.invariant-loop-v
invariant-loop-v l = Prints (cells_below l.row l.v) l.initial.self l.self
