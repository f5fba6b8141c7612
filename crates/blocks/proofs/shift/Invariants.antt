-- The loop's invariant: each byte so far has moved on by one (`Carried`). Assumes nothing.
use Rattle.blocks.proofs.Moving.{Carried}
use Rattle.blocks.proofs.shift.Given as goal

abbrev pub invariant-loop-b : goal.invariant-loop-b
invariant-loop-b l = Carried l.v l.initial.b-items l.b-items l.moved l.b-index
