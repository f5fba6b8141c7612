-- After v turns the text of the first v variables is written. Assumes nothing.
use mathlib.Core.Path.{◌≡◌}
use native.Mathlib.Omega.{arith}
use Rattle.text.proofs.RowText.{cells-more}
use Rattle.text.proofs.Page.put_cells.Goals as goal

pub loop-v-preserved : goal.loop-v-preserved
loop-v-preserved c = cells-more c.args.row c.loop-v.v c.loop-v.invariant (omega arith) c.put_cell.ensures

pub returns : goal.returns
returns c = let all : c.loop-v.v ≡ 16 = omega arith in rw all at c.loop-v.invariant
