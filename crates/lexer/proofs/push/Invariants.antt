-- The loop's invariant: what is left of the production, and the stack so far (`Pushing`). Assumes nothing.
use Rattle.lexer.proofs.StackLaws.{Pushing}
use Rattle.lexer.proofs.push.Given as goal

abbrev pub invariant-loop-p : goal.invariant-loop-p
invariant-loop-p l = Pushing l.initial.stack l.depth l.production l.stack l.d l.p

abbrev pub decreases-loop-p : goal.decreases-loop-p
decreases-loop-p l = l.p
