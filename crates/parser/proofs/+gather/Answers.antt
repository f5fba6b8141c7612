-- The loop's invariant `Gathering` at its start, over a group, and at the closing brace. Assumes nothing.
use mathlib.Core.Path.{sym, ◌∙◌}
use native.Mathlib.Omega.{arith}
use Rattle.blocks.proofs.Holding.{appends}
use Rattle.blocks.proofs.Keeping.{kept_none, kept_then}
use Rattle.parser.proofs.GatherLaws.{gathering-first, gathering-inside, gathering-end, gathering-closes}
use Rattle.parser.proofs.+gather.Goals as goal

pub loop-g-init : goal.loop-g-init
loop-g-init t c = (gathering-first _ _ _ _ _ c.len.ensures, kept_none _)

pub returns-then-word-eq-RBRACE-clause-writes : goal.returns-then-word-eq-RBRACE-clause-writes
returns-then-word-eq-RBRACE-clause-writes t c =
    let turn = c.loop-g in
    let forward = turn.invariant.0.forward in (
      omega arith,
      gathering-end _ _ _ _ _ _ turn.g (sym c.word.ensures.value ∙ c.if-word-eq-RBRACE.true) c.len-from.ensures
          (appends _ c.append.ensures.holds) turn.invariant.0,
    )

pub loop-g-preserved-in-Some : goal.loop-g-preserved-in-Some
loop-g-preserved-in-Some t c = (
  gathering-closes _ _ _ _ _ _ _ _ _ _ c.loop-g.g _ c.in-Some.ensures c.len-end.ensures c.loop-g.invariant.0
      c.gather-next.ensures.writes c.close-g.ensures.writes,
  kept_then c.loop-g.invariant.1 (kept_then c.gather-next.ensures.kept c.close-g.ensures.kept),
)

pub returns-clause-writes : goal.returns-clause-writes
returns-clause-writes t c =
    let turn = c.loop-g in (
      turn.invariant.0.forward,
      gathering-inside _ _ _ _ _ _ turn.g _ (omega arith) c.len-from.ensures (appends _ c.append.ensures.holds) turn.invariant.0,
    )
