-- One and its operands call each other: the measure is twice the bytes left, and one above that for the reader of one. What was read
-- before the operand at hand leaves what is read from there on (`OperandsPassed`). Assumes nothing.
use Rattle.std.proofs.Common.{◌+◌, ◌*◌, length}
use Rattle.query.specs.Parts.{nodes_from}
use Rattle.query.proofs.ReadLaws.{OperandsPassed}
use Rattle.query.proofs.+read_node_read_nodes.Given as goal

abbrev pub decreases-read_node : goal.decreases-read_node
decreases-read_node l = 2 * length l.q.now + 1

abbrev pub decreases-read_nodes : goal.decreases-read_nodes
decreases-read_nodes l = 2 * length l.q.now

abbrev pub invariant-read_nodes-loop : goal.invariant-read_nodes-loop
invariant-read_nodes-loop l = OperandsPassed nodes_from l.q l.n l.at l.counter l.place
