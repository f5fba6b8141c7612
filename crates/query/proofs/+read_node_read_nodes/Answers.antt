-- The answers are put together by the laws of NodeParts and of a walk over operands (ReadLaws). Assumes nothing.
use Rattle.std.proofs.Common.{sym, ap, ◌∙◌, arith}
use Rattle.std.proofs.lemmas.Result.{err_from_is_err_and}
use Rattle.tsparql.specs.Reading.{fault, read_node}
use Rattle.query.specs.Answers.{node_head}
use Rattle.query.specs.Parts.{nodes_from}
use Rattle.query.proofs.ReadLaws.{head-fault, operands-fault, operands-got, place-part, operand-faults, operand-passed, operands-over}
use Rattle.query.proofs.NodeParts.{operands_from, node-parts, node-inside}
use Rattle.query.proofs.NodeParts.{own-inside, nodes-fault, nodes-next, nodes-none}
use Rattle.query.proofs.+read_node_read_nodes.Goals as goal

pub read_node-returns-in_err-head : goal.read_node-returns-in_err-head
read_node-returns-in_err-head t c =
    let p = err_from_is_err_and c.from_residual.result c.from_residual.ensures.1 in
    let s = c.args.q.now in
    rw (p.1, p.2) (sym (head-fault _ _ (operands_from s) (node-parts s) _ (sym c.in_err-head.ensures)))

pub read_node-read_nodes-requires : goal.read_node-read_nodes-requires
read_node-read_nodes-requires t c =
    let h = own-inside c.args.q.now (sym c.in_ok-head.ensures) in
    (omega arith, (h.0, h.1))

pub read_node-returns-in_err-behind : goal.read_node-returns-in_err-behind
read_node-returns-in_err-behind t c =
    let p = err_from_is_err_and c.from_residual-in_err-behind.result c.from_residual-in_err-behind.ensures.1 in
    let s = c.args.q.now in
    let operands = ap (λ k. nodes_from k c.in_ok-head.at s) (sym c.node_operands-n.ensures) ∙ sym c.in_err-behind.ensures in
    rw (p.1, p.2) (sym (operands-fault _ _ (operands_from s) (node-parts s) _ _ _ (sym c.in_ok-head.ensures) operands))

pub read_node-returns : goal.read_node-returns
read_node-returns t c =
    let s = c.args.q.now in
    let operands = ap (λ k. nodes_from k c.in_ok-head.at s) (sym c.node_operands-n.ensures) ∙ sym c.in_ok-behind.ensures in
    sym (operands-got _ _ (operands_from s) (node-parts s) _ _ _ (sym c.in_ok-head.ensures) operands)

pub read_nodes-overflow_add-place : goal.read_nodes-overflow_add-place
read_nodes-overflow_add-place t c =
    let passed = c.loop.invariant.inside in
    omega (arith, place-part node_head read_node node-inside c.args.q.now c.loop.place _ c.in-Ok.ensures passed)

pub read_nodes-behind-requires : goal.read_nodes-behind-requires
read_nodes-behind-requires t c =
    let passed = c.loop.invariant.inside in
    omega (arith, place-part node_head read_node node-inside c.args.q.now c.loop.place _ c.in-Err.ensures passed)

pub read_nodes-returns-in-Err : goal.read_nodes-returns-in-Err
read_nodes-returns-in-Err t c =
    ap fault c.behind.ensures
    ∙ operand-faults c.loop.invariant node_head read_node nodes-fault _ c.loop-test.true c.in-Err.ensures

pub read_nodes-loop-preserved : goal.read_nodes-loop-preserved
read_nodes-loop-preserved t c =
    operand-passed c.loop.invariant node_head read_node nodes-next node-inside _ _ c.loop-test.true c.in-Ok.ensures

pub read_nodes-returns : goal.read_nodes-returns
read_nodes-returns t c = operands-over c.loop.invariant nodes-none (omega (arith, c.loop-test.false))
