-- `write_entries` adds row by row: the entries of the rows passed stand at the front. Assumes nothing.
use native.Mathlib.Omega.{arith}
use Rattle.totals.proofs.EntryLaws.{entering-none, entering-addable, entering-more, entering-all}
use Rattle.totals.proofs.write_entries.Goals as goal

pub loop-i-init : goal.loop-i-init
loop-i-init c = entering-none _ _ _ _

pub add_row-k-requires : goal.add_row-k-requires
add_row-k-requires c =
    let pre = c.requires in
    let i = c.loop-i.i in
    rw c.from-s.ensures (entering-addable pre.0 pre.1 pre.2 pre.5 (omega arith) c.loop-i.invariant (pre.4 i (omega arith)))

pub loop-i-preserved : goal.loop-i-preserved
loop-i-preserved c =
    let pre = c.requires in
    let i = c.loop-i.i in
    entering-more pre.0 pre.1 pre.2 pre.5 (omega arith) c.loop-i.invariant (pre.4 i (omega arith)) _ _
    (rw c.from-s.ensures at c.add_row-k.ensures)

pub returns : goal.returns
returns c = entering-all c.loop-i.invariant (omega arith)
