-- After as many turns as bytes these are written. Assumes nothing.
use native.Mathlib.Omega.{arith}
use Rattle.text.proofs.WritingLaws.{prints-more}
use Rattle.text.proofs.Page.put_text.Goals as goal

pub loop-b-preserved : goal.loop-b-preserved
loop-b-preserved c = prints-more _ c.loop-b.b-index c.loop-b.invariant (omega arith) c.put_byte.ensures
