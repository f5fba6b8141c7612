-- What each turn makes of the block by its item. Assumes nothing.
use Rattle.blocks.proofs.Holding.{puts}
use Rattle.tsparql.specs.Query.{Node}
use Rattle.tsparql.specs.Writing.{node_bytes}
use Rattle.grammar.specs.Meaning.{projected}
use Rattle.groups.proofs.StepLaws.{next_place_lem, next-forward}
use Rattle.blocks.proofs.Keeping.{kept_none, kept_then}
use Rattle.groups.proofs.Passing.{making-first, making-on, making-at, making-end}
use Rattle.groups.proofs.ProjectionLaws.{projected-nil, projected-over, projection-turn}
use native.Mathlib.Omega.{arith}
use Rattle.groups.proofs.projections.Goals as goal

pub loop-i-init : goal.loop-i-init
loop-i-init c = (making-first Node projected node_bytes _ _ _ _, kept_none _)

pub loop-i-smaller : goal.loop-i-smaller
loop-i-smaller c =
    let seeks = c.in-Some.ensures.seeks in
    let more = next-forward _ _ _ c.step-next.ensures in
    omega (arith, seeks.0, seeks.1)

pub loop-i-preserved : goal.loop-i-preserved
loop-i-preserved c =
    let turn = c.loop-i in
    let a = c.args in
    let seeks = c.in-Some.ensures.seeks in (
      making-on Node projected node_bytes a.t.now a.at a.from _ _ _ c.in-Some.i _
          (projection-turn a.t.now a.from _ _ c.in-Some.i _ _ seeks.2 c.word-v.ensures.value (puts _ c.put.ensures.holds)
          (next_place_lem _ _ _ c.step-next.ensures))
          (making-at Node projected node_bytes a.t.now a.at a.from _ 84 projected-over _ turn.next _ seeks turn.invariant.0),
      kept_then turn.invariant.1 c.put.ensures.kept,
    )

pub returns-clause-writes : goal.returns-clause-writes
returns-clause-writes c =
    making-end Node projected node_bytes _ _ _ _ 84 projected-over _ _ projected-nil c.in_default.ensures.seeks c.loop-i.invariant.0
