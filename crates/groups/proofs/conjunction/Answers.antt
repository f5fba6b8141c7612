-- What each turn makes of the block by its item. Assumes nothing.
use native.Mathlib.Omega.{arith}
use Rattle.blocks.proofs.Holding.{puts}
use Rattle.tsparql.specs.Query.{Condition}
use mathlib.Core.Path.{subst}
use mathlib.Core.Option.{Option}
use Prim.Native.Nat.{ℕ}
use Rattle.groups.specs.Passes.{conjoin_filters, some_bytes, Makes}
use Rattle.blocks.specs.Lent.{held}
use Rattle.blocks.proofs.Keeping.{kept_none, kept_then}
use Rattle.groups.proofs.Passing.{making-first, making-on, making-at, making-end}
use Rattle.groups.proofs.FilterLaws.{filters-nil, filters-over, filter-first, filter_more}
use Rattle.groups.proofs.conjunction.Goals as goal

pub loop-i-init : goal.loop-i-init
loop-i-init c = (making-first (Option Condition) conjoin_filters some_bytes _ _ _ _, kept_none _)

pub loop-i-preserved-then-from-n : goal.loop-i-preserved-then-from-n
loop-i-preserved-then-from-n c =
    let turn = c.loop-i in
    let a = c.args in
    let from = c.len-from.result in
    let end = c.len-n.ensures in
    let seeks = c.in-Some.ensures.seeks in (
      making-on (Option Condition) conjoin_filters some_bytes a.t.now a.at from _ _ _ c.in-Some.i _
          (filter_more a.t.now from _ _ _ c.in-Some.i _ seeks.2 (omega arith) (rw c.words.ensures at c.condition-next.ensures.writes.1)
          (puts _ c.put.ensures.holds))
          (making-at (Option Condition) conjoin_filters some_bytes a.t.now a.at from _ 70 filters-over _ turn.next _ seeks
          turn.invariant.0),
      kept_then turn.invariant.1 (kept_then c.condition-next.ensures.kept c.put.ensures.kept),
    )

pub loop-i-preserved : goal.loop-i-preserved
loop-i-preserved c =
    let turn = c.loop-i in
    let a = c.args in
    let from = c.len-from.result in
    let end = c.len-n.ensures in
    let seeks = c.in-Some.ensures.seeks in (
      making-on (Option Condition) conjoin_filters some_bytes a.t.now a.at from _ _ _ c.in-Some.i _
          (filter-first a.t.now from _ _ c.in-Some.i _ seeks.2 (omega arith) (rw c.words.ensures at c.condition-next.ensures.writes.1))
          (making-at (Option Condition) conjoin_filters some_bytes a.t.now a.at from _ 70 filters-over _ turn.next _ seeks
          turn.invariant.0),
      kept_then turn.invariant.1 c.condition-next.ensures.kept,
    )

pub returns-clause-writes : goal.returns-clause-writes
returns-clause-writes c =
    let a = c.args in
    subst (λ (n : ℕ). Makes (Option Condition) conjoin_filters some_bytes a.t.now a.at n (held a.out.now) (held c.loop-i.out))
    c.len-from.ensures
    (making-end (Option Condition) conjoin_filters some_bytes _ _ _ _ 70 filters-over _ _ filters-nil c.in_default.ensures.seeks
    c.loop-i.invariant.0)
