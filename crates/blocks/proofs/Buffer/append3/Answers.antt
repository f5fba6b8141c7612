-- Three bytes, one after the other, are those of the number. Assumes nothing.
use mathlib.Core.Path.{◌≡◌, ap, ◌∙◌}
use mathlib.Core.List.{List, [], ◌∷◌}
use mir.Syntax.{w32}
use lib.ListN.{get_or}
use Rattle.std.specs.Int.{to_be_bytes}
use Prim.Native.Nat.{ℕ, ◌/◌, ◌%◌}
use native.Mathlib.Omega.{arith}
use Rattle.tsparql.specs.Writing.{three_bytes}
use Rattle.blocks.specs.Buffers.{appended}
use Rattle.blocks.specs.Lent.{held}
use Rattle.blocks.proofs.Holding.{appended-on}
use Rattle.blocks.proofs.Buffer.append3.Goals as goal

low-bytes :
    (x : ℕ) (bs : List ℕ) → bs ≡ to_be_bytes w32 x → get_or bs 1 0 % 32 ∷ get_or bs 2 0 ∷ get_or bs 3 0 ∷ [] ≡ three_bytes (x % 2097152)
low-bytes x bs e =
    let p : x / 65536 % 256 % 32 ≡ x % 2097152 / 65536 = omega arith in
    let q : x / 256 % 256 ≡ x % 2097152 / 256 % 256 = omega arith in
    let r : x % 256 ≡ x % 2097152 % 256 = omega arith in
    rw e (rw (p, q, r))

pub returns-clause-holds : goal.returns-clause-holds
returns-clause-holds c =
    let b = held c.args.self.now in
    appended-on _ _ b (appended-on _ _ b c.append.ensures.holds c.append-2.ensures.holds) c.append-3.ensures.holds
    ∙ ap (appended b) (low-bytes c.args.x c.to_be_bytes.result c.to_be_bytes.ensures)
