-- Four texts in a row. Assumes nothing.
use Rattle.tsparql.specs.Strikes.{ascii}
use Rattle.text.proofs.WritingLaws.{prints_then}
use Rattle.text.proofs.WordText.{set-text}
use Rattle.text.proofs.Page.put_cell.Goals as goal

pub returns-then-word-ne0 : goal.returns-then-word-ne0
unfolding ascii
returns-then-word-ne0 c =
    let args = c.args in
    rw (set-text args.v args.word c.if-word-ne0.true)
    (prints_then c.put_text.ensures (prints_then c.put_decimal.ensures (prints_then c.put_byte.ensures c.put_value.ensures)))
