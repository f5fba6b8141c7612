-- The answers are put together by the laws of ConditionParts and of a walk over operands (ReadLaws). Assumes nothing.
use Rattle.std.proofs.Common.{sym, ap, ◌∙◌, arith}
use Rattle.std.proofs.lemmas.Result.{err_from_is_err_and}
use Rattle.tsparql.specs.Reading.{fault, read_condition}
use Rattle.query.specs.Answers.{condition_head}
use Rattle.query.specs.Parts.{conditions_from}
use Rattle.query.proofs.ReadLaws.{head-fault, operands-fault, operands-got, place-part, operand-faults, operand-passed, operands-over}
use Rattle.query.proofs.ConditionParts.{conditions_after, condition-parts, condition-inside}
use Rattle.query.proofs.ConditionParts.{condition-head-inside, conditions-fault, conditions-next, conditions-none}
use Rattle.query.proofs.+read_condition_read_conditions.Goals as goal

pub read_condition-returns-in_err-head : goal.read_condition-returns-in_err-head
read_condition-returns-in_err-head t c =
    let p = err_from_is_err_and c.from_residual.result c.from_residual.ensures.1 in
    let s = c.args.q.now in
    rw (p.1, p.2) (sym (head-fault _ _ (conditions_after s) (condition-parts s) _ (sym c.in_err-head.ensures)))

pub read_condition-read_conditions-requires : goal.read_condition-read_conditions-requires
read_condition-read_conditions-requires t c =
    let h = condition-head-inside c.args.q.now (sym c.in_ok-head.ensures) in
    (omega arith, (h.0, h.1))

pub read_condition-returns-in_err-next : goal.read_condition-returns-in_err-next
read_condition-returns-in_err-next t c =
    let p = err_from_is_err_and c.from_residual-in_err-next.result c.from_residual-in_err-next.ensures.1 in
    let s = c.args.q.now in
    let operands = ap (λ k. conditions_from k c.in_ok-head.own s) (sym c.condition_operands-n.ensures) ∙ sym c.in_err-next.ensures in
    rw (p.1, p.2) (sym (operands-fault _ _ (conditions_after s) (condition-parts s) _ _ _ (sym c.in_ok-head.ensures) operands))

pub read_condition-returns : goal.read_condition-returns
read_condition-returns t c =
    let s = c.args.q.now in
    let operands = ap (λ k. conditions_from k c.in_ok-head.own s) (sym c.condition_operands-n.ensures) ∙ sym c.in_ok-next.ensures in
    sym (operands-got _ _ (conditions_after s) (condition-parts s) _ _ _ (sym c.in_ok-head.ensures) operands)

pub read_conditions-overflow_add-place : goal.read_conditions-overflow_add-place
read_conditions-overflow_add-place t c =
    let passed = c.loop.invariant.inside in
    omega (arith, place-part condition_head read_condition condition-inside c.args.q.now c.loop.place _ c.in-Ok.ensures passed)

pub read_conditions-behind-requires : goal.read_conditions-behind-requires
read_conditions-behind-requires t c =
    let passed = c.loop.invariant.inside in
    omega (arith, place-part condition_head read_condition condition-inside c.args.q.now c.loop.place _ c.in-Err.ensures passed)

pub read_conditions-returns-in-Err : goal.read_conditions-returns-in-Err
read_conditions-returns-in-Err t c =
    ap fault c.behind.ensures
    ∙ operand-faults c.loop.invariant condition_head read_condition conditions-fault _ c.loop-test.true c.in-Err.ensures

pub read_conditions-loop-preserved : goal.read_conditions-loop-preserved
read_conditions-loop-preserved t c =
    operand-passed c.loop.invariant condition_head read_condition conditions-next condition-inside _ _ c.loop-test.true c.in-Ok.ensures

pub read_conditions-returns : goal.read_conditions-returns
read_conditions-returns t c = operands-over c.loop.invariant conditions-none (omega (arith, c.loop-test.false))
