-- By the answer of the check of both, the variable, and the totals of a checked query. Assumes nothing.
use mathlib.Core.Path.{ap, ◌∙◌}
use Rattle.tsparql.specs.Totals.{totals_call}
use Rattle.randwyler.specs.Answers.{chosen, tally_in}
use Rattle.randwyler.proofs.Checks.{checked-ready}
use Rattle.randwyler.proofs.TotalsAnswers.{call-check-refuses, call-variable, call-answered}
use Rattle.randwyler.proofs.randwyler_totals_of.Goals as goal

pub returns-in-Err : goal.returns-in-Err
returns-in-Err c =
    let a = c.args in
    c.totals_refused.ensures a.space.now a.output.now
    ∙ call-check-refuses a.table.now a.query.now (chosen a.mean) a.variable a.space.now a.output.now (tally_in a.tally) c.in-Err.ensures

pub returns-in-Ok : goal.returns-in-Ok
returns-in-Ok c =
    let a = c.args in
    let checked = c.in-Ok.ensures in
    c.totals_refused-in-Ok.ensures a.space.now a.output.now
    ∙ call-variable _ _ a.query.now (chosen a.mean) a.variable a.space.now a.output.now (tally_in a.tally)
    (checked-ready _ _ _ checked) c.if-variable-gt-LAST_VARIABLE.true
    ∙ ap (λ t. totals_call t a.query.now (chosen a.mean) a.variable a.space.now a.output.now (tally_in a.tally)) checked.bytes

pub returns-in-Ok-2 : goal.returns-in-Ok-2
returns-in-Ok-2 c =
    let a = c.args in
    let checked = c.in-Ok.ensures in
    c.totals_checked.ensures
    ∙ call-answered _ _ a.query.now (chosen a.mean) a.variable a.space.now a.output.now (tally_in a.tally)
    (checked-ready _ _ _ checked) c.chosen_aggregation-g.ensures c.if-variable-gt-LAST_VARIABLE.false
    ∙ ap (λ t. totals_call t a.query.now (chosen a.mean) a.variable a.space.now a.output.now (tally_in a.tally)) checked.bytes
