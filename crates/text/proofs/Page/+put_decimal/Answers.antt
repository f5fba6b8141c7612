-- The digits of a tenth, then the last digit (decimal_step). Assumes nothing.
use mathlib.Core.Path.{◌≡◌}
use Prim.Native.Nat.{◌%◌}
use Rattle.std.proofs.Common.{arith}
use Rattle.text.proofs.WritingLaws.{prints_then}
use Rattle.text.proofs.WordText.{decimal-one, decimal-more}
use Rattle.text.proofs.Page.+put_decimal.Goals as goal
use Rattle.text.proofs.Page.+put_decimal.Goals.{then-n-ge10, else-n-ge10}

pub returns : goal.returns
returns t c =
    let n = c.args.n in
    elim c.if-n-ge10.branch [
      | then-n-ge10 w ↦ rw (decimal-more n (omega arith)) (prints_then w.put_decimal.ensures (rw w.self-is at c.put_byte.ensures))
      | else-n-ge10 w ↦
          let last : n % 10 ≡ n = omega arith in
          rw (decimal-one n (omega arith)) (rw (w.self-is, last) at c.put_byte.ensures)
    ]
