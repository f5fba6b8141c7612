-- The measure is the bytes left. Assumes nothing.
use Rattle.std.proofs.Common.{length}
use Rattle.rewriting.proofs.+push_node.Given as goal

abbrev pub decreases-push_node : goal.decreases-push_node
decreases-push_node l = length l.q.now
