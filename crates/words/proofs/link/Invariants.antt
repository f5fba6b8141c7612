-- The loop's invariant: of every place from i on the place is known at which its bracket closes. Assumes nothing.
use Rattle.words.proofs.LinkLaws.{Linking}
use Rattle.words.proofs.link.Given as goal

abbrev pub invariant-loop-i : goal.invariant-loop-i
invariant-loop-i l = Linking l.t l.initial.ends l.ends l.i
