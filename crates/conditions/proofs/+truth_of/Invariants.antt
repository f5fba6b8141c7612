-- A condition is its head and its operands' truths, each from the part where it starts; the bytes left fall with every operand.
-- Assumes nothing.
use Rattle.std.proofs.Common.{length}
use Rattle.conditions.proofs.+truth_of.Given as goal

abbrev pub decreases-truth_of : goal.decreases-truth_of
decreases-truth_of l = length l.q.now
