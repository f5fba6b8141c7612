-- After i turns the lines of the first i rows are written. Assumes nothing.
use Rattle.rows.specs.RowWords.{rows_in}
use Rattle.text.proofs.WritingLaws.{prints_none}
use Rattle.text.proofs.RowText.{rows_more}
use Rattle.text.proofs.Page.put_rows.Goals as goal

pub loop-i-init : goal.loop-i-init
unfolding rows_in
loop-i-init c = prints_none _

pub loop-i-preserved : goal.loop-i-preserved
loop-i-preserved c = rows_more c.loop-i.i c.args.space.now c.loop-i.invariant (rw c.row_at.ensures at c.put_row.ensures)
