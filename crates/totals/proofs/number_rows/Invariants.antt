-- `number_rows` numbers row by row: each gets the number of a row before that has its cell, or the next one. Assumes nothing.
use Rattle.totals.proofs.NumberLaws.{NumberedTo}
use Rattle.totals.proofs.number_rows.Given as goal

abbrev pub invariant-loop-i : goal.invariant-loop-i
invariant-loop-i l = NumberedTo l.u l.n l.space l.initial.numbers l.i l.k l.numbers l.heads l.links
