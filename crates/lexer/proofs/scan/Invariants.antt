-- The loop's invariant: the tokens so far, the stack, and what the automaton gives from here on (`Scanning`). Assumes nothing.
use Prim.Native.Nat.{◌-◌}
use lib.ListN.{length}
use Rattle.lexer.proofs.ScanLaws.{Scanning}
use Rattle.lexer.proofs.scan.Given as goal

abbrev pub invariant-loop-depth : goal.invariant-loop-depth
invariant-loop-depth l = Scanning l.s l.initial.words l.initial.stack l.words l.stack l.depth l.at l.tight l.count

abbrev pub decreases-loop-depth : goal.decreases-loop-depth
decreases-loop-depth l = length l.s - l.at
