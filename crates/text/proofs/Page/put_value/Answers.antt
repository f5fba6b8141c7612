-- By the tests on the word. Assumes nothing.
use native.Mathlib.Omega.{arith}
use Rattle.tsparql.specs.Strikes.{ascii}
use Rattle.text.proofs.WritingLaws.{prints_then}
use Rattle.text.proofs.WordText.{trusted-text}
use Rattle.text.proofs.Page.put_value.Goals as goal

pub returns-else-word-lt-FIRST_TRUST : goal.returns-else-word-lt-FIRST_TRUST
unfolding ascii
returns-else-word-lt-FIRST_TRUST c =
    let word = c.args.word in
    rw (trusted-text word (omega arith)) (prints_then c.put_byte.ensures c.put_trust.ensures)
