-- One and its operands call each other: the measure is twice the bytes left, and one above that for the reader of one. What was read
-- before the operand at hand leaves what is read from there on (`OperandsPassed`). Assumes nothing.
use Rattle.std.proofs.Common.{◌+◌, ◌*◌, length}
use Rattle.query.specs.Parts.{conditions_from}
use Rattle.query.proofs.ReadLaws.{OperandsPassed}
use Rattle.query.proofs.+read_condition_read_conditions.Given as goal

abbrev pub decreases-read_condition : goal.decreases-read_condition
decreases-read_condition l = 2 * length l.q.now + 1

abbrev pub decreases-read_conditions : goal.decreases-read_conditions
decreases-read_conditions l = 2 * length l.q.now

abbrev pub invariant-read_conditions-loop : goal.invariant-read_conditions-loop
invariant-read_conditions-loop l = OperandsPassed conditions_from l.q l.n l.at l.counter l.place
