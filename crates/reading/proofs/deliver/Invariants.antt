-- The bytes before i stand in the output, and what stood behind them stays.
use Rattle.std.proofs.Common.{◌≡◌, ◌++◌, take, drop}
use Rattle.reading.proofs.deliver.Given as goal

abbrev pub invariant-loop-i : goal.invariant-loop-i
invariant-loop-i l = l.output ≡ take l.i l.bytes ++ drop l.i l.initial.output
