-- The loop's invariant: the tokens so far, the stack, and what the automaton gives from here on (`Scanning`). Assumes nothing.
use native.Mathlib.Omega.{arith}
use Rattle.std.proofs.lemmas.Result.{err_from_is_err_and}
use Rattle.lexer.proofs.ScanLaws.{scanning-first, scanning-token, scanning-forward, scanning-fault}
use Rattle.lexer.proofs.ScanLaws.{scanning-all, scanning-surplus}
use Rattle.lexer.proofs.scan.Goals as goal

pub loop-depth-init : goal.loop-depth-init
loop-depth-init c = scanning-first _ _ _ _ _ c.requires.0 c.requires.1 c.push-depth.auto.stack c.push-depth.ensures

pub returns-in_err-token : goal.returns-in_err-token
returns-in_err-token c =
    let p = err_from_is_err_and c.from_residual.result c.from_residual.ensures.1 in
    let stops = scanning-fault c.loop-depth.invariant c.loop-depth-test.true c.advance.result c.advance.ensures _ c.in_err-token.was in
    rw (p.1, p.2) stops

pub bounds-words-count : goal.bounds-words-count
bounds-words-count c =
    let turn = c.loop-depth.invariant in
    let forward = scanning-forward turn c.loop-depth-test.true c.advance.result c.advance.ensures _ c.in_ok-token.was in
    omega (arith, forward.0, forward.1, turn.few, turn.room_words)

pub loop-depth-smaller : goal.loop-depth-smaller
loop-depth-smaller c =
    let forward =
    scanning-forward c.loop-depth.invariant c.loop-depth-test.true c.advance.result c.advance.ensures _ c.in_ok-token.was in
    omega (arith, forward.0, forward.1)

pub loop-depth-preserved : goal.loop-depth-preserved
loop-depth-preserved c =
    let push = c.push-depth-in-loop-depth in
    scanning-token c.loop-depth.invariant c.loop-depth-test.true c.advance.result c.advance.ensures _ _ _ c.in_ok-token.was push.auto.stack
    push.ensures

pub returns-then-end-s : goal.returns-then-end-s
returns-then-end-s c = scanning-surplus c.loop-depth.invariant _ (omega arith) c.skip-end.ensures (omega arith)

pub returns : goal.returns
returns c = scanning-all c.loop-depth.invariant _ (omega arith) c.skip-end.ensures (omega arith)
