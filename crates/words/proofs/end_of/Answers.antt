-- By the kind of the word: it closes, it opens, or is no bracket. Assumes nothing.
use mathlib.Core.Path.{sym, ◌∙◌}
use borrow.Author.Rules.{rules}
use Rattle.words.proofs.LinkLaws.{closed-place, next, closed-closing, closed-opening, closed-other}
use Rattle.words.proofs.end_of.Goals as goal

pub returns-then-closes : goal.returns-then-closes
returns-then-closes c =
    let a = c.args in
    closed-place (closed-closing a.t.now a.i (search rules) (sym c.closes.ensures ∙ c.if-closes.true))

pub bounds-ends-next : goal.bounds-ends-next
bounds-ends-next c =
    let a = c.args in
    let e = (next a.t.now a.ends.now a.i (search rules) c.requires.linked_from).to in
    search rules

pub returns-then-opens : goal.returns-then-opens
returns-then-opens c =
    let a = c.args in
    let not_closing = sym c.closes.ensures ∙ c.if-closes.false in
    let opening = sym c.opens.ensures ∙ c.if-opens.true in
    closed-place (closed-opening a.t.now a.ends.now a.i (search rules) c.requires.linked_from not_closing opening)

pub returns-else-opens : goal.returns-else-opens
returns-else-opens c =
    let a = c.args in
    let not_closing = sym c.closes.ensures ∙ c.if-closes.false in
    let not_opening = sym c.opens.ensures ∙ c.if-opens.false in
    closed-place (closed-other a.t.now a.ends.now a.i (search rules) c.requires.linked_from not_closing not_opening)
