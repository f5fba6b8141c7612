-- By the check, and by the size of the push. Assumes nothing.
use Rattle.std.proofs.Common.{◌≡◌, arith}
use Rattle.std.proofs.lemmas.Result.{err_from_is_err_and}
use Rattle.tsparql.specs.Push.{no_bound, push}
use Rattle.tsparql.specs.Writing.{node_size}
use Rattle.query.specs.Found.{node_of}
use Rattle.rewriting.proofs.RewriteCases.{query-refused, query-passes, whole, too_short, all-written}
use Rattle.rewriting.proofs.rewrite.Goals as goal

pub returns-in_err-check_query : goal.returns-in_err-check_query
returns-in_err-check_query c =
    let p = err_from_is_err_and c.from_residual.result c.from_residual.ensures.1 in
    rw (p.1, p.2) (query-refused c.args.q.now c.args.out.now c.in_err-check_query.ensures)

pub push_size-requires : goal.push_size-requires
push_size-requires c =
    let s = c.args.q.now in
    let w = whole s (query-passes s c.in_ok-check_query.ensures) in
    (w.sound, w.short)

pub returns-then-out-size : goal.returns-then-out-size
returns-then-out-size c =
    let s = c.args.q.now in
    let passes = query-passes s c.in_ok-check_query.ensures in
    let size : c.in_ok-size.size ≡ node_size (push no_bound (node_of s)) = cc c.in_ok-size.ensures in
    too_short s c.args.out.now passes size (omega arith)

pub push_node-requires : goal.push_node-requires
push_node-requires c =
    let s = c.args.q.now in
    let w = whole s (query-passes s c.in_ok-check_query.ensures) in
    let size : c.in_ok-size.size ≡ node_size (push no_bound (node_of s)) = cc c.in_ok-size.ensures in
    record { sound = w.sound; short = w.short; formed = tt; fits = omega (arith, size) }

pub returns : goal.returns
returns c =
    let s = c.args.q.now in
    let out = c.args.out.now in
    let passes = query-passes s c.in_ok-check_query.ensures in
    let size : c.in_ok-size.size ≡ node_size (push no_bound (node_of s)) = cc c.in_ok-size.ensures in
    all-written s out passes _ (omega (arith, size)) c.in_ok-written.ensures
