-- The measure is the words left, and the loop's invariant `Conditioning`, over the bytes that were lent. Assumes nothing.
use Prim.Native.Nat.{◌-◌}
use lib.ListN.{length}
use Rattle.blocks.specs.Lent.{held, Kept}
use Rattle.clauses.proofs.ConditionLaws.{Conditioning}
use Rattle.clauses.proofs.+condition.Given as goal

abbrev pub decreases-condition : goal.decreases-condition
decreases-condition l = length l.t.now - l.at

abbrev pub invariant-loop-w : goal.invariant-loop-w
invariant-loop-w l = Conditioning l.t l.at (held l.initial.out) (held l.out) l.s × Kept l.initial.out l.out

abbrev pub decreases-loop-w : goal.decreases-loop-w
decreases-loop-w l = length l.t - l.s.next
