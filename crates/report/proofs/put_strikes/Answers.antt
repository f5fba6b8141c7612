-- By the length of the facts; else the evaluation in a row space of zeros. Assumes nothing.
use native.Mathlib.Omega.{arith}
use Rattle.report.proofs.ReportLaws.{long-facts, evaluated-facts}
use Rattle.report.proofs.put_strikes.Goals as goal

pub returns-then-facts-gt-FACTS_LIMIT : goal.returns-then-facts-gt-FACTS_LIMIT
returns-then-facts-gt-FACTS_LIMIT c =
    let a = c.args in
    rw (long-facts a.facts.now a.query.now (omega arith)) c.put_refusal.ensures

pub returns-else-facts-gt-FACTS_LIMIT : goal.returns-else-facts-gt-FACTS_LIMIT
returns-else-facts-gt-FACTS_LIMIT c =
    let a = c.args in
    rw (evaluated-facts a.facts.now a.query.now (omega arith)) c.put_evaluation.ensures
