-- A triple, or what joins nothing. Assumes nothing.
use Rattle.groups.proofs.StepLaws.{next-forward}
use Rattle.parser.proofs.PassLaws.{pass-other}
use borrow.Author.Rules.{rules}
use Rattle.parser.proofs.pass.Goals as goal

pub returns-clause-writes : goal.returns-clause-writes
returns-clause-writes c =
    let a = c.args in
    let forward = next-forward a.t.now a.g.next _ c.step.ensures in
    (search rules, pass-other a.t.now _ a.from _ a.g (search rules) c.step.ensures)
