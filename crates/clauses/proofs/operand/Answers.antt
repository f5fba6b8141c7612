-- By the first three words of the primary: each return is one law. Assumes nothing.
use Rattle.blocks.proofs.Holding.{appended-on}
use Rattle.clauses.proofs.ClauseLaws.{operand-less, operand_same, operand-term}
use Rattle.clauses.proofs.operand.Goals as goal

pub returns-then-op-eq-LESS-clause-writes : goal.returns-then-op-eq-LESS-clause-writes
returns-then-op-eq-LESS-clause-writes c =
    let a = c.args in
    operand-less a.t.now _ _ a.i _ _ _ c.word-w.ensures c.word-op.ensures c.word-x.ensures c.if-w-eq-BOUND.false c.if-op-eq-LESS.true
    (appended-on _ _ _ c.append-then-op-eq-LESS.ensures.holds c.append-then-op-eq-LESS-2.ensures.holds)

pub returns-then-x-lt-FIRST_NUMBER-clause-writes : goal.returns-then-x-lt-FIRST_NUMBER-clause-writes
returns-then-x-lt-FIRST_NUMBER-clause-writes c =
    let a = c.args in
    operand_same a.t.now _ _ a.i _ _ _ c.word-w.ensures c.word-op.ensures c.word-x.ensures c.if-w-eq-BOUND.false c.if-op-eq-LESS.false
    c.if-x-lt-FIRST_NUMBER.true
    (appended-on _ _ _ c.append-then-x-lt-FIRST_NUMBER.ensures.holds c.append-then-x-lt-FIRST_NUMBER-2.ensures.holds)

pub returns-clause-writes : goal.returns-clause-writes
returns-clause-writes c =
    let a = c.args in
    operand-term a.t.now _ _ a.i _ _ _ c.word-w.ensures c.word-op.ensures c.word-x.ensures c.if-w-eq-BOUND.false c.if-op-eq-LESS.false
    c.if-x-lt-FIRST_NUMBER.false (appended-on _ _ _ c.append-2.ensures.holds c.append3.ensures.holds)
