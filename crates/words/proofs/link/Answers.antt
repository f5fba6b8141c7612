-- The loop's invariant: of every place from i on the place is known at which its bracket closes. Assumes nothing.
use borrow.Author.Rules.{rules}
use Rattle.words.proofs.LinkLaws.{linking-first}
use Rattle.words.proofs.link.Goals as goal

pub loop-i-init : goal.loop-i-init
loop-i-init c = let a = c.args in linking-first a.t.now a.ends.now (search rules)
