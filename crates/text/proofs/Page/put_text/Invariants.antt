-- After as many turns as bytes these are written. Assumes nothing.
use lib.ListN.{take}
use Rattle.text.specs.Writing.{Prints}
use Rattle.text.proofs.Page.put_text.Given as goal

abbrev pub invariant-loop-b : goal.invariant-loop-b
invariant-loop-b l = Prints (take l.b-index l.text) l.initial.self l.self
