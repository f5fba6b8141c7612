-- Each answer is one law. Assumes nothing.
use mathlib.Core.Logic.{inl, inr}
use Rattle.blocks.proofs.Holding.{exchanges, puts}
use Rattle.parser.proofs.SetLaws.{joins-none, joins-none-2, joins-right-empty, joins-left-empty, joins-both}
use native.Mathlib.Omega.{arith}
use Rattle.parser.proofs.join.Goals as goal

pub returns-then-n-mid-clause-writes : goal.returns-then-n-mid-clause-writes
returns-then-n-mid-clause-writes c =
    let end = c.len-n.ensures in
    elim c.then-n-mid.either [ inl h ↦ joins-none _ _ _ _ (omega arith) | inr h ↦ joins-none-2 _ _ _ _ h.1 ]

pub returns-then-n-mid-eq1-clause-writes : goal.returns-then-n-mid-eq1-clause-writes
returns-then-n-mid-eq1-clause-writes c = joins-right-empty _ _ _ _ (omega arith) c.truncate.ensures.holds

pub returns-then-mid-from-eq1-clause-writes : goal.returns-then-mid-from-eq1-clause-writes
returns-then-mid-from-eq1-clause-writes c =
    joins-left-empty _ _ _ _ _ _ c.len-n.ensures c.if-mid-from-eq1.true (exchanges c.exchange.ensures.holds)
    c.truncate-then-mid-from-eq1.ensures.holds

pub returns-clause-writes : goal.returns-clause-writes
returns-clause-writes c =
    joins-both _ _ _ _ c.if-mid-from-eq1.false (λ e. omega arith) (puts _ c.put.ensures.holds)
