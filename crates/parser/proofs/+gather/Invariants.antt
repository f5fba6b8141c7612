-- The measure is the words left. The loop's invariant is `Gathering`, over the bytes that were lent, which each turn hands on by its
-- callee's promise. Assumes nothing.
use Prim.Native.Nat.{◌-◌}
use lib.ListN.{length}
use Rattle.blocks.specs.Lent.{held, Kept}
use Rattle.parser.proofs.GatherLaws.{Gathering}
use Rattle.parser.proofs.+gather.Given as goal

abbrev pub decreases-gather : goal.decreases-gather
decreases-gather l = length l.t.now - l.at

abbrev pub invariant-loop-g : goal.invariant-loop-g
invariant-loop-g l = Gathering l.t l.at l.from (held l.initial.out) (held l.out) l.g × Kept l.initial.out l.out

abbrev pub decreases-loop-g : goal.decreases-loop-g
decreases-loop-g l = length l.t - l.g.next
