-- Each answer is one law: OPTIONAL, UNION behind the group, or neither. Assumes nothing.
use Rattle.blocks.proofs.Holding.{exchanges, puts}
use mathlib.Core.Path.{sym, ◌∙◌}
use Rattle.parser.proofs.CloseLaws.{close-optional, close-union, close-join}
use borrow.Author.Rules.{rules}
use Rattle.parser.proofs.close.Goals as goal

pub returns-then-word-eq-OPTIONAL-clause-writes : goal.returns-then-word-eq-OPTIONAL-clause-writes
returns-then-word-eq-OPTIONAL-clause-writes c =
    let a = c.args in (
      search rules,
      close-optional a.t.now _ _ _ _ a.a a.from a.end a.next _ _ a.g (sym c.word.ensures.value ∙ c.if-word-eq-OPTIONAL.true)
          c.split-condition.ensures.writes (exchanges c.exchange.ensures.holds) (puts _ c.put.ensures.holds) c.len.ensures,
    )

pub returns-then-word-eq-UNION-clause-writes : goal.returns-then-word-eq-UNION-clause-writes
returns-then-word-eq-UNION-clause-writes c =
    let a = c.args in (
      search rules,
      close-union a.t.now _ _ _ a.a a.from a.end a.next a.g (λ z. c.if-word-eq-OPTIONAL.false (c.word.ensures.value ∙ z))
          (sym c.word-2.ensures.value ∙ c.if-word-eq-UNION.true) c.filtered.ensures.writes c.unite.ensures.writes,
    )

pub returns-clause-writes : goal.returns-clause-writes
returns-clause-writes c =
    let a = c.args in (
      search rules,
      close-join a.t.now _ _ _ _ a.a a.from a.end a.next _ a.g (λ z. c.if-word-eq-OPTIONAL.false (c.word.ensures.value ∙ z))
          (λ z. c.if-word-eq-UNION.false (c.word-2.ensures.value ∙ z)) c.filtered.ensures.writes c.unite.ensures.writes
          c.join.ensures.writes c.len-2.ensures,
    )
