-- `find_before` goes along the chain from its last row: as long as it goes on, no row passed has the word. Assumes nothing.
use Rattle.totals.proofs.ChainLaws.{SearchedTo}
use Rattle.totals.proofs.find_before.Given as goal

abbrev pub invariant-loop-c : goal.invariant-loop-c
invariant-loop-c l = SearchedTo l.u l.i l.x l.space l.c

abbrev pub decreases-loop-c : goal.decreases-loop-c
decreases-loop-c l = l.c
