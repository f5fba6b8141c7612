-- By the length, the reader of the node, and the first clash. Assumes nothing.
use Rattle.std.proofs.Common.{arith}
use Rattle.scope.proofs.Checks.{long-checked, fault-checked, surplus-checked, whole-sound, clash-checked, passed-checked}
use Rattle.scope.proofs.check_query.Goals as goal

pub returns-then-limit-q : goal.returns-then-limit-q
returns-then-limit-q c = long-checked c.args.limit c.args.q.now (omega arith)

pub returns-in_default : goal.returns-in_default
returns-in_default c =
    let told = rw c.unwrap_err.ensures at c.read_node-read.ensures in
    rw c.from.ensures (fault-checked c.args.limit c.args.q.now (omega arith) told)

pub returns-then-next-q : goal.returns-then-next-q
returns-then-next-q c = surplus-checked c.args.q.now c.in-Ok.ensures c.args.limit (omega arith) (λ e. omega arith)

pub first_clash-requires : goal.first_clash-requires
first_clash-requires c = whole-sound c.args.q.now c.in-Ok.ensures (omega arith)

pub returns-in-None : goal.returns-in-None
returns-in-None c = passed-checked c.args.q.now c.in-Ok.ensures c.args.limit (omega arith) (omega arith) c.in-None.ensures

pub returns-in-Some : goal.returns-in-Some
returns-in-Some c = clash-checked c.args.q.now c.in-Ok.ensures c.args.limit (omega arith) (omega arith) c.in-Some.ensures
