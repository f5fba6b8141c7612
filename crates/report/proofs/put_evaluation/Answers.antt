-- The rows of the report are those that stand in the row space. Assumes nothing.
use Rattle.report.proofs.ReportLaws.{answer-room, answer-report}
use Rattle.report.proofs.put_evaluation.Goals as goal

pub put_report-requires : goal.put_report-requires
put_report-requires c =
    let a = c.args in
    answer-room a.facts.now a.query.now a.space.now
    (λ i. (c.shared_slice_known-1.given i).fits) _ _ c.randwyler_evaluate-e.ensures

pub returns : goal.returns
returns c =
    let a = c.args in
    rw (answer-report a.facts.now a.query.now a.space.now
    (λ i. (c.shared_slice_known-1.given i).fits) _ _ c.randwyler_evaluate-e.ensures)
    at c.put_report.ensures
