-- The invariant: the uses seen and those of the nodes left are all, and few were seen. The measure is what is left of the query.
-- Assumes nothing.
use Rattle.std.proofs.Common.{◌-◌, length}
use Rattle.scope.proofs.Walk.{UsesLeft}
use Rattle.scope.proofs.clashes.Given as goal

abbrev pub invariant-loop-at : goal.invariant-loop-at
invariant-loop-at l = UsesLeft l.v l.q l.at l.seen

abbrev pub decreases-loop-at : goal.decreases-loop-at
decreases-loop-at l = length l.q - l.at
