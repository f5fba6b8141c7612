-- The loop's invariant: what was made of the block by the items so far, in the bytes that were lent. Assumes nothing.
use Prim.Native.Nat.{◌-◌}
use lib.ListN.{length}
use Rattle.tsparql.specs.Query.{Condition}
use mathlib.Core.Option.{Option}
use Rattle.groups.specs.Passes.{conjoin_filters, some_bytes}
use Rattle.blocks.specs.Lent.{held, Kept}
use Rattle.groups.proofs.Passing.{Making}
use Rattle.groups.proofs.conjunction.Given as goal

abbrev pub invariant-loop-i : goal.invariant-loop-i
invariant-loop-i l =
    Making (Option Condition) conjoin_filters some_bytes l.t l.at l.from (held l.initial.out) (held l.out) l.next × Kept l.initial.out l.out

abbrev pub decreases-loop-i : goal.decreases-loop-i
decreases-loop-i l = length l.t - l.next
