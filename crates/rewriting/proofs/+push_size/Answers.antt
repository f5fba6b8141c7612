-- A node's push is put together from its operands' by the laws of PushSteps. Assumes nothing.
use Rattle.std.proofs.Common.{sym, ◌+◌, arith}
use Rattle.query.proofs.Operands.{own-found, own-sound, first-sound}
use Rattle.bounds.specs.Bounds.{bound_in}
use Rattle.rewriting.proofs.PushSteps.{got-is, part-ready, push-inside, none-sized, first-sized, one-sized, two-behind, second-sized}
use Rattle.rewriting.proofs.+push_size.Goals as goal

pub returns-in_default : goal.returns-in_default
returns-in_default t c = absurd (own-sound c.args.q.now _ c.requires.0 (sym c.in_default.ensures))

pub own_size-own-requires : goal.own_size-own-requires
own_size-own-requires t c =
    let o = own-found c.args.q.now _ _ c.requires.0 (sym c.in-Ok.ensures) in
    omega (arith, o.inside, c.requires.1)

pub returns-then-n-eq0 : goal.returns-then-n-eq0
returns-then-n-eq0 t c =
    let o = own-found c.args.q.now _ _ c.requires.0 (sym c.in-Ok.ensures) in
    none-sized (bound_in c.args.b) c.own_size-own.ensures c.node_operands-n.ensures o c.if-n-eq0.true

pub slice_bounds-push_size-count : goal.slice_bounds-push_size-count
slice_bounds-push_size-count t c = (own-found c.args.q.now _ _ c.requires.0 (sym c.in-Ok.ensures)).inside

pub slice_bounds-push_size-start : goal.slice_bounds-push_size-start
slice_bounds-push_size-start t c = omega (arith, (own-found c.args.q.now _ _ c.requires.0 (sym c.in-Ok.ensures)).inside)

pub push_size-requires : goal.push_size-requires
push_size-requires t c =
    let s = c.args.q.now in
    let o = own-found s _ _ c.requires.0 (sym c.in-Ok.ensures) in
    let r = part-ready s c.in-Ok.k (first-sound o (rw c.node_operands-n.ensures at c.if-n-eq0.false)) o.some o.inside c.requires.1 in
    (omega (arith, r.0), (r.1, r.2))

pub overflow_add-at : goal.overflow_add-at
overflow_add-at t c =
    let x =
    first-sized c.args.q.now (bound_in c.args.b) c.requires.0 c.in-Ok.ensures c.node_operands-n.ensures c.if-n-eq0.false
    c.first_bound.ensures c.in_ok-left.ensures in
    omega (arith, x.place, c.requires.1)

pub overflow_add-to : goal.overflow_add-to
overflow_add-to t c =
    let x =
    first-sized c.args.q.now (bound_in c.args.b) c.requires.0 c.in-Ok.ensures c.node_operands-n.ensures c.if-n-eq0.false
    c.first_bound.ensures c.in_ok-left.ensures in
    omega (arith, x.small, c.own_size-own.ensures, c.requires.1)

pub returns-then-n-eq1 : goal.returns-then-n-eq1
returns-then-n-eq1 t c =
    let x =
    first-sized c.args.q.now (bound_in c.args.b) c.requires.0 c.in-Ok.ensures c.node_operands-n.ensures c.if-n-eq0.false
    c.first_bound.ensures c.in_ok-left.ensures in
    one-sized (bound_in c.args.b) c.own_size-own.ensures c.node_operands-n.ensures x c.if-n-eq1.true

pub slice_bounds-push_size-count-2 : goal.slice_bounds-push_size-count-2
slice_bounds-push_size-count-2 t c =
    let x =
    first-sized c.args.q.now (bound_in c.args.b) c.requires.0 c.in-Ok.ensures c.node_operands-n.ensures c.if-n-eq0.false
    c.first_bound.ensures c.in_ok-left.ensures in
    x.place

pub slice_bounds-push_size-start-2 : goal.slice_bounds-push_size-start-2
slice_bounds-push_size-start-2 t c =
    let x =
    first-sized c.args.q.now (bound_in c.args.b) c.requires.0 c.in-Ok.ensures c.node_operands-n.ensures c.if-n-eq0.false
    c.first_bound.ensures c.in_ok-left.ensures in
    omega (arith, x.place)

pub push_size-requires-2 : goal.push_size-requires-2
push_size-requires-2 t c =
    let x =
    first-sized c.args.q.now (bound_in c.args.b) c.requires.0 c.in-Ok.ensures c.node_operands-n.ensures c.if-n-eq0.false
    c.first_bound.ensures c.in_ok-left.ensures in
    let two = two-behind x c.node_operands-n.ensures c.if-n-eq1.false in
    let r = part-ready c.args.q.now (c.in-Ok.k + c.in_ok-left.next) two.right-sound (omega (arith, x.own.some)) x.place c.requires.1 in
    (omega (arith, r.0), (r.1, r.2))

pub overflow_add-result : goal.overflow_add-result
overflow_add-result t c =
    let x =
    first-sized c.args.q.now (bound_in c.args.b) c.requires.0 c.in-Ok.ensures c.node_operands-n.ensures c.if-n-eq0.false
    c.first_bound.ensures c.in_ok-left.ensures in
    let y = second-sized x c.node_operands-n.ensures c.if-n-eq1.false c.second_bound.ensures c.in_ok-right.ensures in
    omega (arith, y.total, c.own_size-own.ensures, push-inside x.own (bound_in c.args.b), c.requires.1)

pub overflow_add-result-2 : goal.overflow_add-result-2
overflow_add-result-2 t c =
    let x =
    first-sized c.args.q.now (bound_in c.args.b) c.requires.0 c.in-Ok.ensures c.node_operands-n.ensures c.if-n-eq0.false
    c.first_bound.ensures c.in_ok-left.ensures in
    let y = second-sized x c.node_operands-n.ensures c.if-n-eq1.false c.second_bound.ensures c.in_ok-right.ensures in
    omega (arith, y.place, x.own.size-inside, c.requires.1)

pub returns : goal.returns
returns t c =
    let x =
    first-sized c.args.q.now (bound_in c.args.b) c.requires.0 c.in-Ok.ensures c.node_operands-n.ensures c.if-n-eq0.false
    c.first_bound.ensures c.in_ok-left.ensures in
    let y = second-sized x c.node_operands-n.ensures c.if-n-eq1.false c.second_bound.ensures c.in_ok-right.ensures in
    got-is (omega (arith, y.total, c.own_size-own.ensures)) y.place
