-- In a turn the uses of the node at hand are added, and the next node is found inside the query. Assumes nothing.
use Rattle.std.proofs.Common.{sym, arith}
use Rattle.scope.proofs.Walk.{uses-start, uses-sound, uses-here, uses-next, uses-end, next-found, next-inside}
use Rattle.scope.proofs.clashes.Goals as goal

pub loop-at-init : goal.loop-at-init
loop-at-init c = uses-start c.args.v c.args.q.now c.requires

pub own_uses-seen-requires : goal.own_uses-seen-requires
own_uses-seen-requires c = uses-sound c.loop-at.invariant (omega arith)

pub returns-then-seen-ge2 : goal.returns-then-seen-ge2
returns-then-seen-ge2 c = sym (uses-here c.loop-at.invariant (omega arith) c.own_uses-seen.ensures (omega arith))

pub returns-in_default : goal.returns-in_default
returns-in_default c = absurd (next-found c.loop-at.invariant.nodes (omega arith) c.in_default.ensures)

pub overflow_add-at : goal.overflow_add-at
overflow_add-at c = omega (arith, next-inside c.loop-at.invariant.nodes (omega arith) c.in-Ok.ensures)

pub loop-at-smaller : goal.loop-at-smaller
loop-at-smaller c = omega (arith, next-inside c.loop-at.invariant.nodes (omega arith) c.in-Ok.ensures)

pub loop-at-preserved : goal.loop-at-preserved
loop-at-preserved c = uses-next c.loop-at.invariant (omega arith) c.own_uses-seen.ensures c.in-Ok.ensures (omega arith)

pub returns : goal.returns
returns c = sym (uses-end c.loop-at.invariant (omega arith))
