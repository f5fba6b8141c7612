-- In a turn the pattern at hand faults, or leaves those behind it. Assumes nothing.
use Rattle.std.proofs.Common.{◌≡◌, sym, ap, ◌∙◌, ◌+◌, ◌-◌, arith}
use Rattle.tsparql.specs.Reading.{read_pattern}
use Rattle.query.specs.Parts.{patterns_from}
use Rattle.query.proofs.ReadLaws.{on-part}
use Rattle.query.proofs.PatternParts.{patterns-none, patterns-next, patterns-fault, pattern-part}
use Rattle.query.proofs.read_patterns.Goals as goal

pub returns-in_default : goal.returns-in_default
returns-in_default c =
    let q = c.args.q.now in
    let bad = on-part read_pattern q c.loop.next c.in_default.ensures in
    sym (c.loop.invariant.0 ∙ patterns-fault q c.loop.next (c.args.n - c.loop.counter) _ (omega arith) bad)

pub overflow_add-next : goal.overflow_add-next
overflow_add-next c = omega (arith, pattern-part c.args.q.now c.loop.next _ c.in-Ok.ensures (omega arith))

pub loop-preserved : goal.loop-preserved
loop-preserved c =
    let q = c.args.q.now in
    let left = c.args.n - c.loop.counter in
    let found = on-part read_pattern q c.loop.next c.in-Ok.ensures in
    let fewer : left - 1 ≡ c.args.n - (c.loop.counter + 1) = omega arith in (
      c.loop.invariant.0 ∙ patterns-next q c.loop.next left _ _ (omega arith) found
          ∙ ap (λ m. patterns_from m (c.loop.next + c.in-Ok.k) q) fewer,
      omega (arith, pattern-part q c.loop.next _ c.in-Ok.ensures (omega arith)),
    )

pub returns : goal.returns
returns c = sym (c.loop.invariant.0 ∙ patterns-none c.args.q.now c.loop.next _ (omega arith))
