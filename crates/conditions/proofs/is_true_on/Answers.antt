-- A condition reads a row's 16 cells alone. Assumes nothing.
use Rattle.std.proofs.Common.{ap, ◌∙◌, map, arith}
use Rattle.std.proofs.lemmas.List.{take-take}
use Rattle.tsparql.specs.Conditions.{is_true, truth_on, true_on}
use Rattle.cells.specs.Words.{word_cell}
use Rattle.conditions.specs.Truths.{condition_of}
use Rattle.conditions.proofs.is_true_on.Goals as goal

pub returns : goal.returns
unfolding true_on
returns c =
    let condition = condition_of c.args.q.now in
    let cells = take-take 16 17 c.args.row.now (omega arith) in
    c.is_true.ensures ∙ ap is_true (c.truth_on.ensures ∙ ap (λ ws. truth_on (map word_cell ws) condition) cells)
