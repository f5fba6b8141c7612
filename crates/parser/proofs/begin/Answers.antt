-- Each answer is one law. Assumes nothing.
use native.Mathlib.Omega.{arith}
use Rattle.blocks.proofs.Holding.{appends, puts}
use Rattle.parser.proofs.SetLaws.{begins-none, begins-empty, begins-full}
use Rattle.parser.proofs.begin.Goals as goal
use Rattle.parser.proofs.begin.Goals.{then-n-from-via-then-n-from, then-n-from-via-else-n-from+then-n-from-eq1}

pub returns-then-n-from-clause-writes : goal.returns-then-n-from-clause-writes
returns-then-n-from-clause-writes c =
    elim c.then-n-from.branch [
      | then-n-from-via-then-n-from w ↦ begins-none _ _ (omega arith)
      | then-n-from-via-else-n-from+then-n-from-eq1 w ↦ begins-empty _ _ (omega arith)
    ]

pub returns-clause-writes : goal.returns-clause-writes
returns-clause-writes c =
    begins-full _ _ _ _ (λ e. omega arith) (appends _ c.append.ensures.holds) (puts _ c.put.ensures.holds)
