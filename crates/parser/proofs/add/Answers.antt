-- Each answer is one law. Assumes nothing.
use native.Mathlib.Omega.{arith}
use Rattle.parser.proofs.SetLaws.{adds, adds_none, adds-none-2}
use borrow.Author.Rules.{rules}
use Rattle.parser.proofs.add.Goals as goal
use Rattle.parser.proofs.add.Goals.{then-run-gt14-via-then-run-gt14, then-run-gt14-via-else-run-gt14+then-n-run}

pub returns-then-run-gt14-clause-writes : goal.returns-then-run-gt14-clause-writes
returns-then-run-gt14-clause-writes c =
    let a = c.args in
    elim c.then-run-gt14.branch [
      | then-run-gt14-via-then-run-gt14 w ↦ adds_none a.t.now a.i _ _ (omega arith)
      | then-run-gt14-via-else-run-gt14+then-n-run w ↦ adds-none-2 a.t.now a.i _ _ (omega arith)
    ]

pub returns-clause-writes : goal.returns-clause-writes
returns-clause-writes c =
    let a = c.args in
    adds a.t.now a.i _ _ _ _ _ _ _ c.len-n.ensures (search rules)
    c.set.ensures.holds c.slot.ensures.writes c.slot-2.ensures.writes c.slot-3.ensures.writes
