-- What the head and the operands' answers tell is turned into the definitions' reading of the part; the answers are the laws of
-- ConditionLaws. Assumes nothing.
use Rattle.std.proofs.Common.{refl, sym, ◌∙◌, ◌+◌, ◌≤◌, length, rules, arith}
use Rattle.std.proofs.lemmas.Result.{err_from_is_err_and}
use Rattle.tsparql.specs.Conditions.{holds, truth_on}
use Rattle.tsparql.specs.Reading.{read_condition}
use Rattle.query.specs.Parts.{map_read}
use Rattle.query.proofs.ReadLaws.{on-part, place-part}
use Rattle.query.proofs.ConditionParts.{condition-inside, condition-head-inside}
use Rattle.rows.specs.RowWords.{row_at}
use Rattle.conditions.specs.Truths.{truth_in, head_truth}
use Rattle.conditions.proofs.ConditionLaws.{head-fault, head-formed, none-judged, first-fault, one-judged, second-fault}
use Rattle.conditions.proofs.ConditionLaws.{two-judged, judges-truth, judges-fault}
use Rattle.conditions.proofs.+truth_of.Goals as goal

-- ---- the head

pub returns-in_err-head : goal.returns-in_err-head
returns-in_err-head t c =
    let p = err_from_is_err_and c.from_residual.result c.from_residual.ensures.1 in
    rw (p.1, p.2) (judges-fault refl (head-fault c.args.q.now (sym c.in_err-head.ensures)))

pub head_truth-requires : goal.head_truth-requires
head_truth-requires t c = (head-formed c.args.q.now _ _ (sym c.in_ok-head.ensures), c.requires)

pub returns-then-n-eq0 : goal.returns-then-n-eq0
returns-then-n-eq0 t c =
    let cells = (row_at 0 c.args.row.now).cells in
    let none = sym c.condition_operands-n.ensures ∙ c.if-n-eq0.true in
    judges-truth (head_truth cells c.in_ok-head.head holds holds) c.head_truth.ensures
    (none-judged _ _ _ _ _ _ (sym c.in_ok-head.ensures) none)

-- ---- the first operand

pub slice_bounds-truth_of-count : goal.slice_bounds-truth_of-count
slice_bounds-truth_of-count t c = (condition-head-inside c.args.q.now (sym c.in_ok-head.ensures)).1

pub slice_bounds-truth_of-start : goal.slice_bounds-truth_of-start
slice_bounds-truth_of-start t c =
    let h = (condition-head-inside c.args.q.now (sym c.in_ok-head.ensures)).1 in search rules

pub truth_of-requires : goal.truth_of-requires
truth_of-requires t c =
    let h = condition-head-inside c.args.q.now (sym c.in_ok-head.ensures) in
    (omega (arith, h.0, h.1), c.requires)

pub behind-requires : goal.behind-requires
behind-requires t c =
    let s = c.args.q.now in
    let h = condition-head-inside s (sym c.in_ok-head.ensures) in
    omega (
      arith,
      place-part (truth_on (row_at 0 c.args.row.now).cells) read_condition condition-inside s c.in_ok-head.own _
          c.in-Err.ensures.found h.1,
    )

pub returns-in-Err : goal.returns-in-Err
returns-in-Err t c =
    let s = c.args.q.now in
    let cells = (row_at 0 c.args.row.now).cells in
    let first = on-part (λ p. map_read (truth_on cells) (read_condition p)) s c.in_ok-head.own c.in-Err.ensures.found in
    judges-fault c.behind.ensures
    (first-fault s cells _ _ _ (sym c.in_ok-head.ensures) (omega (arith, c.condition_operands-n.ensures)) first)

pub overflow_add-mid : goal.overflow_add-mid
overflow_add-mid t c =
    let s = c.args.q.now in
    let h = condition-head-inside s (sym c.in_ok-head.ensures) in
    omega (
      arith,
      place-part (truth_on (row_at 0 c.args.row.now).cells) read_condition condition-inside s c.in_ok-head.own _
          c.in-Ok.ensures.found h.1,
    )

pub returns-then-n-eq1 : goal.returns-then-n-eq1
returns-then-n-eq1 t c =
    let s = c.args.q.now in
    let cells = (row_at 0 c.args.row.now).cells in
    let one = sym c.condition_operands-n.ensures ∙ c.if-n-eq1.true in
    let first = on-part (λ p. map_read (truth_on cells) (read_condition p)) s c.in_ok-head.own c.in-Ok.ensures.found in
    let u = truth_in c.in-Ok.first.0 in
    judges-truth (head_truth cells c.in_ok-head.head u u) c.head_truth-then-n-eq1.ensures
    (one-judged _ _ _ _ _ _ _ (sym c.in_ok-head.ensures) one first)

-- ---- the second operand

pub slice_bounds-truth_of-count-2 : goal.slice_bounds-truth_of-count-2
slice_bounds-truth_of-count-2 t c =
    let s = c.args.q.now in
    let h = condition-head-inside s (sym c.in_ok-head.ensures) in
    place-part (truth_on (row_at 0 c.args.row.now).cells) read_condition condition-inside s c.in_ok-head.own _
    c.in-Ok.ensures.found h.1

pub slice_bounds-truth_of-start-2 : goal.slice_bounds-truth_of-start-2
slice_bounds-truth_of-start-2 t c =
    let s = c.args.q.now in
    let h = condition-head-inside s (sym c.in_ok-head.ensures) in
    let inside : c.in_ok-head.own + c.in-Ok.first.1 ≤ length s =
    place-part (truth_on (row_at 0 c.args.row.now).cells) read_condition condition-inside s c.in_ok-head.own _
    c.in-Ok.ensures.found h.1 in
    search rules

pub truth_of-requires-2 : goal.truth_of-requires-2
truth_of-requires-2 t c =
    let s = c.args.q.now in
    let h = condition-head-inside s (sym c.in_ok-head.ensures) in
    let inside = place-part (truth_on (row_at 0 c.args.row.now).cells) read_condition condition-inside s c.in_ok-head.own _
    c.in-Ok.ensures.found h.1 in
    (omega (arith, h.0, inside), c.requires)

pub overflow_add-result : goal.overflow_add-result
overflow_add-result t c =
    let s = c.args.q.now in
    let cells = (row_at 0 c.args.row.now).cells in
    let h = condition-head-inside s (sym c.in_ok-head.ensures) in
    let first = place-part (truth_on cells) read_condition condition-inside s c.in_ok-head.own _ c.in-Ok.ensures.found h.1 in
    omega (
      arith,
      place-part (truth_on cells) read_condition condition-inside s (c.in_ok-head.own + c.in-Ok.first.1) _
          c.in-Ok-truth_of.ensures.found first,
    )

pub behind-requires-in-Err-truth_of : goal.behind-requires-in-Err-truth_of
behind-requires-in-Err-truth_of t c =
    let s = c.args.q.now in
    let cells = (row_at 0 c.args.row.now).cells in
    let h = condition-head-inside s (sym c.in_ok-head.ensures) in
    let first = place-part (truth_on cells) read_condition condition-inside s c.in_ok-head.own _ c.in-Ok.ensures.found h.1 in
    omega (
      arith,
      place-part (truth_on cells) read_condition condition-inside s (c.in_ok-head.own + c.in-Ok.first.1) _
          c.in-Err-truth_of.ensures.found first,
    )

pub returns-in-Ok-truth_of : goal.returns-in-Ok-truth_of
returns-in-Ok-truth_of t c =
    let s = c.args.q.now in
    let cells = (row_at 0 c.args.row.now).cells in
    let own = c.in_ok-head.own in
    let first = on-part (λ p. map_read (truth_on cells) (read_condition p)) s own c.in-Ok.ensures.found in
    let second = on-part (λ p. map_read (truth_on cells) (read_condition p)) s (own + c.in-Ok.first.1) c.in-Ok-truth_of.ensures.found in
    let x = head_truth cells c.in_ok-head.head (truth_in c.in-Ok.first.0) (truth_in c.in-Ok-truth_of.u) in
    judges-truth x c.head_truth-in-Ok-truth_of.ensures
    (two-judged _ _ _ _ _ _ _ _ (sym c.in_ok-head.ensures) (omega (arith, c.condition_operands-n.ensures)) first second)

pub returns-in-Err-truth_of : goal.returns-in-Err-truth_of
returns-in-Err-truth_of t c =
    let s = c.args.q.now in
    let cells = (row_at 0 c.args.row.now).cells in
    let own = c.in_ok-head.own in
    let first = on-part (λ p. map_read (truth_on cells) (read_condition p)) s own c.in-Ok.ensures.found in
    let second = on-part (λ p. map_read (truth_on cells) (read_condition p)) s (own + c.in-Ok.first.1) c.in-Err-truth_of.ensures.found in
    judges-fault c.behind-in-Err-truth_of.ensures
    (second-fault s cells _ _ _ _ _ (sym c.in_ok-head.ensures) (omega (arith, c.condition_operands-n.ensures)) first second)
