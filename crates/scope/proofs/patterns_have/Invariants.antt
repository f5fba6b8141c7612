-- The invariant: the patterns left have the variable exactly if all have it. Assumes nothing.
use Rattle.std.proofs.Common.{◌-◌}
use Rattle.scope.proofs.Patterns.{HaveLeft}
use Rattle.scope.proofs.patterns_have.Given as goal

abbrev pub invariant-loop : goal.invariant-loop
invariant-loop l = HaveLeft l.v l.q l.n l.at (l.n - l.counter) l.next
