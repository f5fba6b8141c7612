-- By whether the triple begins a set. Assumes nothing.
use mathlib.Core.Path.{sym, ◌∙◌}
use native.Mathlib.Omega.{arith}
use Rattle.parser.proofs.TripleLaws.{set-begins, set-goes-on, triple-new, triple-more}
use Rattle.parser.proofs.triple.Goals as goal

pub returns-then-begins_set-clause-writes : goal.returns-then-begins_set-clause-writes
returns-then-begins_set-clause-writes c =
    let a = c.args in
    let first = set-begins a.g.run (sym c.begins_set.ensures ∙ c.if-begins_set.true) in (
      omega arith,
      triple-new a.t.now _ _ _ a.from _ a.g first c.begin.ensures.writes c.add.ensures.writes c.len.ensures,
    )

pub returns-clause-writes : goal.returns-clause-writes
returns-clause-writes c =
    let a = c.args in
    let on = set-goes-on a.g.run (sym c.begins_set.ensures ∙ c.if-begins_set.false) in (
      omega arith,
      triple-more a.t.now _ _ a.from _ a.g on.0 on.1 c.add-2.ensures.writes c.len-2.ensures,
    )
