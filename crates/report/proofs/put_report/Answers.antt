-- By the refusal's number. Assumes nothing.
use Rattle.tsparql.specs.Strikes.{counts_line}
use Rattle.rows.specs.RowWords.{rows_in}
use Rattle.randwyler.specs.Answers.{evaluated_in}
use Rattle.text.proofs.WritingLaws.{prints_then}
use Rattle.report.proofs.ReportLaws.{report-answered, report-refused}
use Rattle.report.proofs.put_report.Goals as goal

pub returns-then-e-ne0 : goal.returns-then-e-ne0
returns-then-e-ne0 c =
    let a = c.args in
    let space = a.space.now in
    rw (report-refused (evaluated_in a.e space).evaluated (rows_in a.e.rows space) c.if-e-ne0.true)
    c.put_refusal.ensures

pub returns-else-e-ne0 : goal.returns-else-e-ne0
unfolding counts_line
returns-else-e-ne0 c =
    let a = c.args in
    let space = a.space.now in
    rw (report-answered (evaluated_in a.e space).evaluated (rows_in a.e.rows space) c.if-e-ne0.false)
    (prints_then c.put_counts.ensures c.put_rows.ensures)
