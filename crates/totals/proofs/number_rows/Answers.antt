-- `number_rows` numbers row by row: each gets the number of a row before that has its cell, or the next one. Assumes nothing.
use native.Mathlib.Omega.{arith}
use borrow.Author.Rules.{rules}
use Rattle.totals.proofs.ChainLaws.{chained-none}
use Rattle.totals.proofs.NumberLaws.{numbered-none, numbered_old, numbered_new}
use Rattle.totals.proofs.number_rows.Goals as goal
use Rattle.totals.proofs.number_rows.Goals.{in-Some, in-None}

pub loop-i-init : goal.loop-i-init
loop-i-init c = numbered-none _ _ _ _ _ _ (chained-none _ _ _ (search rules))

pub loop-i-preserved : goal.loop-i-preserved
loop-i-preserved c =
    let pre = c.requires in
    let l = c.loop-i.invariant in
    elim c.match-chain_row.branch [
      | in-Some w ↦ rw (w.numbers-is, w.k-is) (numbered_old pre.0 pre.1 (omega arith) pre.3 l w.in-Some.ensures.1 w.in-Some.row w.in-Some.ensures.0)
      | in-None w ↦ rw (w.numbers-is, w.k-is) (numbered_new pre.0 pre.1 (omega arith) pre.3 l w.in-None.ensures.1 w.in-None.ensures.0)
    ]
