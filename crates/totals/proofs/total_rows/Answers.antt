-- The numbers tell how many words the entries are, and in which entry each row is counted. Assumes nothing.
use native.Mathlib.Omega.{arith}
use borrow.Author.Rules.{rules}
use Rattle.totals.proofs.EntryLaws.{numbers-few, numbers-size, entered-short, entered_all}
use Rattle.totals.proofs.total_rows.Goals as goal

pub overflow_mul-words : goal.overflow_mul-words
overflow_mul-words c =
    omega (arith, numbers-few c.number_rows-words.ensures, c.requires.2)

pub returns-then-out-words : goal.returns-then-out-words
returns-then-out-words c = entered-short c.number_rows-words.ensures _ c.if-out-words.true

pub write_entries-requires : goal.write_entries-requires
write_entries-requires c =
    let pre = c.requires in
    let made = c.number_rows-words.ensures in
    (pre.0, pre.1, pre.2, search rules, made.each, omega (arith, numbers-size made, c.if-out-words.false))

pub returns : goal.returns
returns c =
    entered_all c.number_rows-words.ensures _ _ c.if-out-words.false
    c.write_entries.ensures
