-- In a turn the node at hand clashes, or the first clash is among the nodes behind it. Assumes nothing.
use Rattle.std.proofs.Common.{sym, arith}
use Rattle.scope.proofs.Walk.{clash-start, clash-is, clash-next, clash-none, next-found, next-inside}
use Rattle.scope.proofs.first_clash.Goals as goal

pub loop-at-init : goal.loop-at-init
loop-at-init c = clash-start c.args.q.now c.requires

pub returns-then-clash_at : goal.returns-then-clash_at
returns-then-clash_at c = sym (clash-is c.loop-at.invariant (omega arith) (sym c.if-clash_at.ensures))

pub returns-in_default : goal.returns-in_default
returns-in_default c = absurd (next-found c.loop-at.invariant.nodes (omega arith) c.in_default.ensures)

pub overflow_add-at : goal.overflow_add-at
overflow_add-at c = omega (arith, next-inside c.loop-at.invariant.nodes (omega arith) c.in-Ok.ensures)

pub loop-at-smaller : goal.loop-at-smaller
loop-at-smaller c = omega (arith, next-inside c.loop-at.invariant.nodes (omega arith) c.in-Ok.ensures)

pub loop-at-preserved : goal.loop-at-preserved
loop-at-preserved c = clash-next c.loop-at.invariant (omega arith) c.in-Ok.ensures (sym c.if-clash_at.ensures)

pub returns : goal.returns
returns c = sym (clash-none c.loop-at.invariant (omega arith))
