-- The invariant: what is left to read from the place reached is what was to be read. Assumes nothing.
use Rattle.std.proofs.Common.{◌≡◌, ◌≤◌, ◌-◌, length}
use Rattle.query.specs.Parts.{patterns_from}
use Rattle.query.proofs.read_patterns.Given as goal

abbrev pub invariant-loop : goal.invariant-loop
invariant-loop l = (patterns_from l.n l.at l.q ≡ patterns_from (l.n - l.counter) l.next l.q) × (l.next ≤ length l.q)
