-- By whether a condition was written. Assumes nothing.
use native.Mathlib.Omega.{arith}
use Rattle.blocks.proofs.Holding.{appends}
use Rattle.groups.proofs.GroupLaws.{splits-none, splits-some}
use Rattle.groups.proofs.split.Goals as goal

pub returns-then-mid-len-clause-writes : goal.returns-then-mid-len-clause-writes
returns-then-mid-len-clause-writes c =
    let a = c.args in
    splits-some a.t.now a.at a.from _ _ _ _ (omega arith) c.unfiltered.ensures.writes c.conjunction.ensures.writes (omega arith)

pub returns-clause-writes : goal.returns-clause-writes
returns-clause-writes c =
    let a = c.args in
    splits-none a.t.now a.at a.from _ _ _ _ _ (omega arith) c.unfiltered.ensures.writes c.conjunction.ensures.writes (omega arith)
    (appends _ c.append.ensures.holds)
