-- After i turns the lines of the first i rows are written. Assumes nothing.
use Rattle.tsparql.specs.Lists.{concat_map}
use Rattle.tsparql.specs.Strikes.{row_line}
use Rattle.rows.specs.RowWords.{rows_in}
use Rattle.text.specs.Writing.{Prints}
use Rattle.text.proofs.Page.put_rows.Given as goal

abbrev pub invariant-loop-i : goal.invariant-loop-i
invariant-loop-i l = Prints (concat_map row_line (rows_in l.i l.space)) l.initial.self l.self
