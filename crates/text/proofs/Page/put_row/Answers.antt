-- Three texts in a row. Assumes nothing.
use Rattle.tsparql.specs.Strikes.{ascii, row_line}
use Rattle.text.proofs.WritingLaws.{prints_then}
use Rattle.text.proofs.Page.put_row.Goals as goal

pub returns : goal.returns
unfolding row_line ascii
returns c = prints_then c.put_trust.ensures (prints_then c.put_cells.ensures c.put_byte.ensures)
