-- What is written grows from the node's own bytes by each operand's push, by the laws of PushWrites. Assumes nothing.
use Rattle.std.proofs.Common.{sym, arith}
use Rattle.query.proofs.Operands.{own-found, own-sound}
use Rattle.bounds.specs.Bounds.{bound_in}
use Rattle.rewriting.proofs.PushSteps.{own-inside, first-sized, second-sized}
use Rattle.rewriting.proofs.PushWrites.{none-written, first-ready, first-written, one-written, second-ready, second-written}
use Rattle.rewriting.proofs.+push_node.Goals as goal

pub returns-in_default : goal.returns-in_default
returns-in_default t c = absurd (own-sound c.args.q.now _ c.requires.sound (sym c.in_default.ensures))

pub write_own-own-requires : goal.write_own-own-requires
write_own-own-requires t c =
    let o = own-found c.args.q.now _ _ c.requires.sound (sym c.in-Ok.ensures) in
    let pre = c.requires in
    (pre.formed, omega (arith, o.inside, pre.short), o.inside, omega (arith, own-inside o (bound_in c.args.b), pre.fits))

pub returns-then-n-eq0 : goal.returns-then-n-eq0
returns-then-n-eq0 t c =
    none-written c.args.q.now (bound_in c.args.b) c.args.out.now _ _ (λ i. (c.type_inv.q i).fits) c.requires.sound c.in-Ok.ensures
    c.write_own-own.ensures c.node_operands-n.ensures c.if-n-eq0.true

pub slice_bounds-push_node-count : goal.slice_bounds-push_node-count
slice_bounds-push_node-count t c = (own-found c.args.q.now _ _ c.requires.sound (sym c.in-Ok.ensures)).inside

pub slice_bounds-push_node-start : goal.slice_bounds-push_node-start
slice_bounds-push_node-start t c = omega (arith, (own-found c.args.q.now _ _ c.requires.sound (sym c.in-Ok.ensures)).inside)

pub push_node-requires : goal.push_node-requires
push_node-requires t c =
    let r =
    first-ready c.args.q.now (bound_in c.args.b) _ c.args.out.now _ _ c.requires c.in-Ok.ensures c.node_operands-n.ensures
    c.if-n-eq0.false c.first_bound.ensures c.write_own-own.ensures in
    (omega (arith, r.0), r.1)

pub overflow_add-at : goal.overflow_add-at
overflow_add-at t c =
    let x =
    first-sized c.args.q.now (bound_in c.args.b) c.requires.sound c.in-Ok.ensures c.node_operands-n.ensures c.if-n-eq0.false
    c.first_bound.ensures c.in_ok-left.ensures.is in
    omega (arith, x.place, c.requires.short)

pub returns-then-n-eq1 : goal.returns-then-n-eq1
returns-then-n-eq1 t c =
    let x =
    first-written c.args.q.now (bound_in c.args.b) _ c.args.out.now _ _ _ c.requires c.in-Ok.ensures c.write_own-own.ensures
    c.node_operands-n.ensures c.if-n-eq0.false c.first_bound.ensures c.in_ok-left.ensures in
    one-written (λ i. (c.type_inv.q i).fits) c.requires x c.node_operands-n.ensures c.if-n-eq1.true

pub slice_bounds-push_node-count-3 : goal.slice_bounds-push_node-count-3
slice_bounds-push_node-count-3 t c =
    let x =
    first-sized c.args.q.now (bound_in c.args.b) c.requires.sound c.in-Ok.ensures c.node_operands-n.ensures c.if-n-eq0.false
    c.first_bound.ensures c.in_ok-left.ensures.is in
    x.place

pub slice_bounds-push_node-start-3 : goal.slice_bounds-push_node-start-3
slice_bounds-push_node-start-3 t c =
    let x =
    first-sized c.args.q.now (bound_in c.args.b) c.requires.sound c.in-Ok.ensures c.node_operands-n.ensures c.if-n-eq0.false
    c.first_bound.ensures c.in_ok-left.ensures.is in
    omega (arith, x.place)

pub push_node-requires-2 : goal.push_node-requires-2
push_node-requires-2 t c =
    let x =
    first-written c.args.q.now (bound_in c.args.b) _ c.args.out.now _ _ _ c.requires c.in-Ok.ensures c.write_own-own.ensures
    c.node_operands-n.ensures c.if-n-eq0.false c.first_bound.ensures c.in_ok-left.ensures in
    let r = second-ready c.requires x c.node_operands-n.ensures c.if-n-eq1.false c.second_bound.ensures in
    (omega (arith, r.0), r.1)

pub overflow_add-result-2 : goal.overflow_add-result-2
overflow_add-result-2 t c =
    let x =
    first-sized c.args.q.now (bound_in c.args.b) c.requires.sound c.in-Ok.ensures c.node_operands-n.ensures c.if-n-eq0.false
    c.first_bound.ensures c.in_ok-left.ensures.is in
    let y = second-sized x c.node_operands-n.ensures c.if-n-eq1.false c.second_bound.ensures c.in_ok-right.ensures.is in
    omega (arith, y.place, x.own.size-inside, c.requires.short)

pub returns : goal.returns
returns t c =
    let x =
    first-written c.args.q.now (bound_in c.args.b) _ c.args.out.now _ _ _ c.requires c.in-Ok.ensures c.write_own-own.ensures
    c.node_operands-n.ensures c.if-n-eq0.false c.first_bound.ensures c.in_ok-left.ensures in
    second-written c.requires x c.node_operands-n.ensures c.if-n-eq1.false c.second_bound.ensures _ (λ i. (c.type_inv.q i).fits)
    c.in_ok-right.ensures
