-- By the answer to the checked query, and the entries of its rows. Assumes nothing.
use mathlib.Core.Path.{◌∙◌}
use native.Mathlib.Omega.{arith}
use lib.ListN.{length}
use Rattle.tsparql.specs.Table.{facts_in}
use Rattle.tsparql.specs.Reading.{query_node}
use Rattle.table.specs.Answers.{view_of}
use Rattle.patterns.specs.Sets.{aggregation_of, aggregate_of}
use Rattle.randwyler.specs.Answers.{tally_in}
use Rattle.randwyler.proofs.Evaluations.{ready-node}
use Rattle.randwyler.proofs.AnsweredRows.{ready-answers, ready-formed, answered-held, answered-few}
use Rattle.randwyler.proofs.TotalsAnswers.{totals-refused, totals-short, totals-written}
use Rattle.randwyler.proofs.totals_checked.Goals as goal

pub answer-requires : goal.answer-requires
answer-requires c =
    let a = c.args in
    let n = ready-node (view_of a.table.now.view) a.table.now.bytes.now a.query.now c.requires.0 in
    (n.0, n.2)

pub total_rows-words-requires : goal.total_rows-words-requires
total_rows-words-requires c =
    let a = c.args in
    let formed = ready-formed (aggregation_of a.g) (view_of a.table.now.view) a.table.now.bytes.now a.query.now c.requires.0 a.table.now.octets in
    let e = ready-answers (aggregation_of a.g) (view_of a.table.now.view) a.table.now.bytes.now a.query.now c.requires.0 c.in-Ok.ensures in
    (answered-held formed e, c.requires.1, answered-few formed e)

pub returns-then-output-words : goal.returns-then-output-words
returns-then-output-words c =
    let a = c.args in
    let formed = ready-formed (aggregation_of a.g) (view_of a.table.now.view) a.table.now.bytes.now a.query.now c.requires.0 a.table.now.octets in
    let e = ready-answers (aggregation_of a.g) (view_of a.table.now.view) a.table.now.bytes.now a.query.now c.requires.0 c.in-Ok.ensures in
    c.totals_refused-then-output-words.ensures c.answer.new.space _
    ∙ totals-short a.variable (tally_in a.tally) a.output.now formed e
    c.total_rows-words.ensures (omega arith)

pub returns-in-Err : goal.returns-in-Err
returns-in-Err c =
    let a = c.args in
    let e = ready-answers (aggregation_of a.g) (view_of a.table.now.view) a.table.now.bytes.now a.query.now c.requires.0 c.in-Err.ensures in
    c.totals_refused.ensures c.answer.new.space a.output.now
    ∙ totals-refused (aggregate_of a.g) (facts_in (view_of a.table.now.view) a.table.now.bytes.now) (query_node a.query.now) a.variable
    (length a.space.now) (tally_in a.tally) c.answer.new.space a.output.now e

pub returns-else-output-words : goal.returns-else-output-words
returns-else-output-words c =
    let a = c.args in
    let formed = ready-formed (aggregation_of a.g) (view_of a.table.now.view) a.table.now.bytes.now a.query.now c.requires.0 a.table.now.octets in
    let e = ready-answers (aggregation_of a.g) (view_of a.table.now.view) a.table.now.bytes.now a.query.now c.requires.0 c.in-Ok.ensures in
    rw c.with_answered.ensures
    (totals-written a.variable (tally_in a.tally) a.output.now formed e
    c.total_rows-words.ensures (omega arith))
