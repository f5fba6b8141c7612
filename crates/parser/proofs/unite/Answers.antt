-- Each answer is one law. Assumes nothing.
use Rattle.blocks.proofs.Holding.{puts}
use Rattle.parser.proofs.SetLaws.{unite-some, unite-none}
use borrow.Author.Rules.{rules}
use Rattle.parser.proofs.unite.Goals as goal

pub returns-then-mid-end-clause-writes : goal.returns-then-mid-end-clause-writes
returns-then-mid-end-clause-writes c = unite-some _ _ _ _ c.if-mid-end.true (puts _ c.put.ensures.holds)

pub returns-else-mid-end-clause-writes : goal.returns-else-mid-end-clause-writes
returns-else-mid-end-clause-writes c = unite-none _ _ _ (search rules)
