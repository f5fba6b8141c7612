-- By the tests on the word. Assumes nothing.
use native.Mathlib.Omega.{arith}
use Rattle.tsparql.specs.Strikes.{ascii}
use Rattle.text.proofs.WritingLaws.{prints_then}
use Rattle.text.proofs.WordText.{unknown-text, minus-text}
use Rattle.text.proofs.Page.put_trust.Goals as goal

pub returns-then-word-gt2000 : goal.returns-then-word-gt2000
unfolding ascii
returns-then-word-gt2000 c =
    let word = c.args.word in
    rw (unknown-text word (omega arith)) c.put_byte.ensures

pub returns-then-word-lt1000 : goal.returns-then-word-lt1000
unfolding ascii
returns-then-word-lt1000 c =
    let word = c.args.word in
    rw (minus-text word (omega arith)) (prints_then c.put_byte-then-word-lt1000.ensures c.put_decimal.ensures)
