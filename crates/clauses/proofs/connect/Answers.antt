-- By the word behind the primary: each return is one law. Assumes nothing.
use mathlib.Core.Path.{sym, ◌∙◌}
use native.Mathlib.Omega.{arith}
use Rattle.blocks.proofs.Holding.{puts}
use Rattle.clauses.proofs.ConnectLaws.{connect-and, connect-or, connect-end}
use Rattle.clauses.proofs.connect.Goals as goal

pub returns-in-38-clause-writes : goal.returns-in-38-clause-writes
returns-in-38-clause-writes c =
    (omega arith, connect-and _ _ _ _ _ c.args.next (sym c.word.ensures ∙ c.in-38.is) (puts _ c.put.ensures.holds))

pub returns-in-124-clause-writes : goal.returns-in-124-clause-writes
returns-in-124-clause-writes c =
    (omega arith, connect-or _ _ _ _ _ c.args.next (sym c.word.ensures ∙ c.in-124.is) (puts _ c.put-in-124.ensures.holds) _ c.len.ensures)

pub returns-in_default-clause-writes : goal.returns-in_default-clause-writes
returns-in_default-clause-writes c =
    let w = c.word.ensures in
    (omega arith, connect-end _ _ _ _ c.args.next (λ e. omega arith) (λ e. omega arith))
