-- By the loop's invariant: it has gone over other items alone. Assumes nothing.
use native.Mathlib.Omega.{arith}
use mathlib.Core.Path.{sym, ◌∙◌}
use Rattle.groups.proofs.StepLaws.{next-forward}
use Rattle.groups.proofs.SeekLaws.{seeking-first, seeking-on, seeking-end, seeking-none}
use Rattle.groups.proofs.find_item.Goals as goal

pub loop-i-init : goal.loop-i-init
loop-i-init c = seeking-first _ _ _

pub returns-then-w-eq-RBRACE-clause-seeks : goal.returns-then-w-eq-RBRACE-clause-seeks
returns-then-w-eq-RBRACE-clause-seeks c =
    seeking-end _ _ _ _ c.loop-i.invariant (sym c.word-w.ensures.value ∙ c.if-w-eq-RBRACE.true)

pub loop-i-smaller : goal.loop-i-smaller
loop-i-smaller c =
    let more = next-forward _ _ _ c.step-i.ensures in
    omega arith

pub loop-i-preserved : goal.loop-i-preserved
loop-i-preserved c =
    let w = c.word-w.ensures.value in
    seeking-on _ _ _ _ c.loop-i.invariant _ c.requires (λ e. omega arith) (λ e. omega arith) c.step-i.ensures

pub returns-clause-seeks : goal.returns-clause-seeks
returns-clause-seeks c = seeking-none _ _ _ _ c.loop-i.invariant (omega arith)
