-- A pattern is nine bytes with three sound slots. Assumes nothing.
use Rattle.std.proofs.Common.{sym, ap, ◌∙◌, length, arith}
use borrow.Author.Tests.{le-leb, lt-leb}
use Rattle.tsparql.specs.Reading.{read_pattern}
use Rattle.slots.specs.Answers.{slots_sound}
use Rattle.slots.proofs.read_pattern.Goals as goal

pub returns-then-q-lt-PATTERN_BYTES : goal.returns-then-q-lt-PATTERN_BYTES
unfolding read_pattern
returns-then-q-lt-PATTERN_BYTES c = rw (lt-leb 9 (length c.args.q.now) (omega arith))

pub returns-then-pattern_sound : goal.returns-then-pattern_sound
unfolding read_pattern
returns-then-pattern_sound c =
    let s = c.args.q.now in
    let tested = sym (c.pattern_sound.ensures ∙ ap slots_sound c.pattern_at-p.ensures) in
    rw (le-leb 9 (length s) (omega arith), c.pattern_at-p.ensures, tested ∙ c.if-pattern_sound.true)

pub returns-else-pattern_sound : goal.returns-else-pattern_sound
unfolding read_pattern
returns-else-pattern_sound c =
    let s = c.args.q.now in
    let tested = sym (c.pattern_sound.ensures ∙ ap slots_sound c.pattern_at-p.ensures) in
    rw (le-leb 9 (length s) (omega arith), tested ∙ c.if-pattern_sound.false)
