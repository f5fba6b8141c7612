-- In a turn the next pattern's bytes are there, and it is the pattern at hand. Assumes nothing.
use Rattle.std.proofs.Common.{◌+◌, ◌-◌, sym, arith}
use Rattle.std.proofs.lemmas.List.{take_rest}
use Rattle.scope.proofs.Patterns.{have-none, pattern-long, have-here, have-next}
use Rattle.scope.proofs.patterns_have.Goals as goal

pub pattern_at-requires : goal.pattern_at-requires
pattern_at-requires c = rw take_rest (pattern-long c.loop.invariant (omega arith))

pub returns-then-pattern_has : goal.returns-then-pattern_has
returns-then-pattern_has c =
    sym (have-here c.loop.invariant (omega arith) (rw (c.pattern_at.ensures, take_rest) at (sym c.if-pattern_has.ensures)))

pub loop-preserved : goal.loop-preserved
loop-preserved c =
    have-next c.loop.invariant (c.args.n - (c.loop.counter + 1)) (omega arith)
    (rw (c.pattern_at.ensures, take_rest) at (sym c.if-pattern_has.ensures))

pub returns : goal.returns
returns c = sym (have-none c.loop.invariant (omega arith))
