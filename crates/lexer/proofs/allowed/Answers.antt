-- What a symbol allows, by the table's rule for it. Assumes nothing.
use borrow.Author.Rules.{rules}
use Rattle.lexer.proofs.RuleLaws.{rules as table, rule, looked-up}
use Rattle.lexer.proofs.allowed.Goals as goal

pub returns : goal.returns
unfolding table rule
returns c = looked-up c.args.symbol c.args.first c.map.result (search rules)
