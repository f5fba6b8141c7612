-- Where there is room, by what `shift` leaves. Assumes nothing.
use mathlib.Core.Path.{refl, ap, ◌∙◌}
use mathlib.Core.List.{List}
use Prim.Native.Nat.{ℕ, ◌+◌}
use native.Mathlib.Omega.{arith}
use lib.ListN.{length}
use Rattle.blocks.specs.Buffers.{buffer}
use Rattle.blocks.specs.Lent.{held}
use Rattle.blocks.proofs.Holding.{inserted-shifted, length-shifted}
use Rattle.blocks.proofs.Buffer.put.Goals as goal

pub returns-then-end-self-clause-holds : goal.returns-then-end-self-clause-holds
returns-then-end-self-clause-holds c =
    let b = held c.args.self.now in
    ap (λ (l : List ℕ). buffer l (b.end + 1)) c.shift.ensures ∙ inserted-shifted b c.args.at c.args.v (omega arith) (omega arith)

pub returns-then-end-self-clause-kept : goal.returns-then-end-self-clause-kept
returns-then-end-self-clause-kept c =
    let b = held c.args.self.now in
    record {
      same = refl;
      whole = ap length c.shift.ensures ∙ length-shifted b.bytes c.args.at b.end c.args.v (omega arith) (omega arith);
    }
