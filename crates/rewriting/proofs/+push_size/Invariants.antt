-- The measure is the bytes left. Assumes nothing.
use Rattle.std.proofs.Common.{length}
use Rattle.rewriting.proofs.+push_size.Given as goal

abbrev pub decreases-push_size : goal.decreases-push_size
decreases-push_size l = length l.q.now
