-- By what the loop has moved on. Assumes nothing.
use native.Mathlib.Omega.{arith}
use Rattle.blocks.proofs.Moving.{carried-one, carried-all}
use Rattle.blocks.proofs.shift.Goals as goal

pub loop-b-preserved : goal.loop-b-preserved
loop-b-preserved c =
    carried-one c.args.v _ _ _ _ c.loop-b.invariant _ _ (omega arith) c.replace-moved.ensures.after c.replace-moved.ensures.value

pub returns : goal.returns
returns c =
    carried-all c.args.out.now _ c.args.at c.args.end c.args.v _ _ (omega arith) (omega arith) (omega arith) (omega arith)
    c.loop-b.invariant
