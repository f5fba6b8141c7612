-- The loop's invariant: what is left of the production, and the stack so far (`Pushing`). Assumes nothing.
use borrow.Author.Rules.{rules}
use Rattle.lexer.proofs.StackLaws.{pushing-first, pushing-one, pushing-all}
use Rattle.lexer.proofs.push.Goals as goal

pub loop-p-init : goal.loop-p-init
loop-p-init c = pushing-first _ _ _

pub loop-p-preserved : goal.loop-p-preserved
loop-p-preserved c = pushing-one c.loop-p.invariant (search rules)

pub returns : goal.returns
returns c = pushing-all c.loop-p.invariant (search rules)
