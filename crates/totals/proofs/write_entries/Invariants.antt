-- `write_entries` adds row by row: the entries of the rows passed stand at the front. Assumes nothing.
use Rattle.totals.proofs.EntryLaws.{Entering}
use Rattle.totals.proofs.write_entries.Given as goal

abbrev pub invariant-loop-i : goal.invariant-loop-i
invariant-loop-i l = Entering l.u l.n l.space l.initial.out l.i l.k l.out
