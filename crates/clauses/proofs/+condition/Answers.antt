-- The loop's invariant `Conditioning` at its start, over each primary, and at the closing parenthesis. Assumes nothing.
use native.Mathlib.Omega.{arith}
use mathlib.Core.Path.{◌≡◌}
use lib.ListN.{get_or}
use borrow.Author.Rules.{rules}
use Rattle.blocks.proofs.Holding.{appends}
use Rattle.blocks.proofs.Keeping.{kept_none, kept_then}
use Rattle.clauses.proofs.ConditionLaws.{conditioning-first, conditioning-none, conditioning-end}
use Rattle.clauses.proofs.ConditionLaws.{conditioning-not, conditioning-parens, conditioning-operand}
use Rattle.clauses.proofs.+condition.Goals as goal

pub loop-w-init : goal.loop-w-init
loop-w-init t c = (conditioning-first _ _ _ _ c.len-from.ensures, kept_none _)

pub returns-in-41-clause-writes : goal.returns-in-41-clause-writes
returns-in-41-clause-writes t c =
    let turn = c.loop-w in
    let forward = turn.invariant.0.forward in
    let w : get_or c.args.t.now turn.s.next 0 ≡ 41 = search rules in
    (omega arith, conditioning-end turn.invariant.0 w)

pub loop-w-preserved-in-33 : goal.loop-w-preserved-in-33
loop-w-preserved-in-33 t c =
    let turn = c.loop-w in
    let w : get_or c.args.t.now turn.s.next 0 ≡ 33 = search rules in
    (conditioning-not turn.invariant.0 _ w (appends _ c.append.ensures.holds), kept_then turn.invariant.1 c.append.ensures.kept)

pub loop-w-preserved-in-40 : goal.loop-w-preserved-in-40
loop-w-preserved-in-40 t c =
    let turn = c.loop-w in
    let w : get_or c.args.t.now turn.s.next 0 ≡ 40 = search rules in (
      conditioning-parens turn.invariant.0 _ _ _ _ _ c.len-from.ensures c.connect-s.ensures.writes w c.condition-next.ensures.writes,
      kept_then turn.invariant.1 (kept_then c.condition-next.ensures.kept c.connect-s.ensures.kept),
    )

pub loop-w-preserved : goal.loop-w-preserved
loop-w-preserved t c =
    let turn = c.loop-w in
    let w : get_or c.args.t.now turn.s.next 0 ≡ c.in-Some.w.now = search rules in (
      conditioning-operand turn.invariant.0 _ _ _ _ _ c.len-from.ensures c.connect-s-in_default-w.ensures.writes
          (λ e. omega arith) (λ e. omega arith) (λ e. omega arith) c.operand-next.ensures.writes,
      kept_then turn.invariant.1 (kept_then c.operand-next.ensures.kept c.connect-s-in_default-w.ensures.kept),
    )

pub returns-clause-writes : goal.returns-clause-writes
returns-clause-writes t c =
    let turn = c.loop-w in
    (turn.invariant.0.forward, conditioning-none turn.invariant.0 _ (search rules))
