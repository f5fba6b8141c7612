-- Five texts in a row. Assumes nothing.
use Rattle.tsparql.specs.Strikes.{ascii, refused_line}
use Rattle.text.proofs.WritingLaws.{prints_then}
use Rattle.text.proofs.Page.put_refusal.Goals as goal

pub returns : goal.returns
unfolding refused_line ascii
returns c =
    prints_then c.put_text.ensures
    (prints_then c.put_decimal.ensures
    (prints_then c.put_text-2.ensures (prints_then c.put_decimal-2.ensures c.put_byte.ensures)))
