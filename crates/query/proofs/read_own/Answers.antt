-- By the head, and what stands before its operands. Assumes nothing.
use Rattle.std.proofs.Common.{sym}
use Rattle.query.proofs.NodeParts.{node-head-inside}
use Rattle.query.proofs.read_own.Goals as goal

pub before_operands-requires : goal.before_operands-requires
before_operands-requires c = let h = node-head-inside c.args.q.now (sym c.in_ok-head.ensures) in (h.0, h.1)
