-- The loop's invariant: what was made of the block by the items so far, in the bytes that were lent. Assumes nothing.
use Prim.Native.Nat.{◌-◌}
use lib.ListN.{length}
use Rattle.tsparql.specs.Query.{Node}
use Rattle.tsparql.specs.Writing.{node_bytes}
use Rattle.grammar.specs.Meaning.{projected}
use Rattle.blocks.specs.Lent.{held, Kept}
use Rattle.groups.proofs.Passing.{Making}
use Rattle.groups.proofs.projections.Given as goal

abbrev pub invariant-loop-i : goal.invariant-loop-i
invariant-loop-i l = Making Node projected node_bytes l.t l.at l.from (held l.initial.out) (held l.out) l.next × Kept l.initial.out l.out

abbrev pub decreases-loop-i : goal.decreases-loop-i
decreases-loop-i l = length l.t - l.next
