-- The loop's invariant: the digits so far give the value so far (`Reading`), and the greatest number is small. Assumes nothing.
use Prim.Native.Nat.{◌<◌}
use Rattle.scanner.proofs.NumberLaws.{Reading}
use Rattle.scanner.proofs.Cursor.number.Given as goal

abbrev pub invariant-loop-i : goal.invariant-loop-i
invariant-loop-i l = Reading l.b-items l.most l.first l.self.at l.value l.i × (l.most < 2000000)
