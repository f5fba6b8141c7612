-- By the answer to the checked query. Assumes nothing.
use mathlib.Core.Path.{◌∙◌}
use Rattle.table.specs.Answers.{view_of}
use Rattle.patterns.specs.Sets.{aggregate_of}
use Rattle.randwyler.specs.Answers.{tally_in}
use Rattle.randwyler.proofs.Evaluations.{ready-node, counted}
use Rattle.randwyler.proofs.evaluate_checked.Goals as goal

pub answer-requires : goal.answer-requires
answer-requires c =
    let a = c.args in
    let n = ready-node (view_of a.table.now.view) a.table.now.bytes.now a.query.now c.requires in
    (n.0, n.2)

pub returns-in-Err : goal.returns-in-Err
returns-in-Err c =
    let a = c.args in
    c.evaluation_refused.ensures c.answer.new.space
    ∙ counted (aggregate_of a.g) (view_of a.table.now.view) a.table.now.bytes.now a.query.now (tally_in a.tally) a.space.now c.answer.new.space _
    c.requires c.in-Err.ensures

pub returns-in-Ok : goal.returns-in-Ok
returns-in-Ok c =
    let a = c.args in
    rw c.with_answered.ensures
    (counted (aggregate_of a.g) (view_of a.table.now.view) a.table.now.bytes.now a.query.now (tally_in a.tally) a.space.now c.answer.new.space _
    c.requires c.in-Ok.ensures)
