-- The invariant: the first clash among the nodes left is the query's. The measure is what is left of the query. Assumes nothing.
use Rattle.std.proofs.Common.{◌-◌, length}
use Rattle.scope.proofs.Walk.{ClashLeft}
use Rattle.scope.proofs.first_clash.Given as goal

abbrev pub invariant-loop-at : goal.invariant-loop-at
invariant-loop-at l = ClashLeft l.q l.at

abbrev pub decreases-loop-at : goal.decreases-loop-at
decreases-loop-at l = length l.q - l.at
