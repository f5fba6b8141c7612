-- By whether a condition was written. Assumes nothing.
use native.Mathlib.Omega.{arith}
use Rattle.blocks.proofs.Holding.{exchanges, puts}
use Rattle.groups.proofs.GroupLaws.{filters-none, filters-some}
use Rattle.groups.proofs.filtered.Goals as goal

pub returns-then-mid-len-clause-writes : goal.returns-then-mid-len-clause-writes
returns-then-mid-len-clause-writes c =
    let a = c.args in
    filters-some a.t.now a.at a.from _ _ _ _ _ _ c.len-mid.ensures c.unfiltered.ensures.writes c.conjunction.ensures.writes (omega arith)
    (exchanges c.exchange.ensures.holds) (puts _ c.put.ensures.holds)

pub returns-else-mid-len-clause-writes : goal.returns-else-mid-len-clause-writes
returns-else-mid-len-clause-writes c =
    let a = c.args in
    filters-none a.t.now a.at a.from _ _ _ _ c.len-mid.ensures c.unfiltered.ensures.writes c.conjunction.ensures.writes (omega arith)
