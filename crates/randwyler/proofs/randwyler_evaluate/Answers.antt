-- By the answer of the check of both, and that to a checked query. Assumes nothing.
use mathlib.Core.Path.{ap, ◌∙◌}
use Rattle.tsparql.specs.Calls.{evaluate}
use Rattle.randwyler.specs.Answers.{chosen, tally_in}
use Rattle.randwyler.proofs.Checks.{checked-ready}
use Rattle.randwyler.proofs.Evaluations.{evaluate-refuses, evaluate-answers}
use Rattle.randwyler.proofs.randwyler_evaluate.Goals as goal

pub returns-in-Err : goal.returns-in-Err
returns-in-Err c =
    let a = c.args in
    c.evaluation_refused.ensures a.space.now
    ∙ evaluate-refuses a.table.now a.query.now (chosen a.mean) a.space.now (tally_in a.tally) c.in-Err.ensures

pub returns-in-Ok : goal.returns-in-Ok
returns-in-Ok c =
    let a = c.args in
    let checked = c.in-Ok.ensures in
    evaluate-answers _ _ a.query.now (chosen a.mean) a.space.now (tally_in a.tally) (checked-ready _ _ _ checked)
    c.chosen_aggregation-g.ensures _ c.evaluate_checked.ensures
    ∙ ap (λ t. evaluate t a.query.now (chosen a.mean) a.space.now (tally_in a.tally)) checked.bytes
