-- Four bytes, the last one first. Assumes nothing.
use mathlib.Core.Path.{◌≡◌, ap, ◌∙◌}
use mathlib.Core.List.{List, [], ◌∷◌}
use mir.Syntax.{w32}
use Prim.Native.Nat.{ℕ, ◌/◌, ◌%◌, ◌<◌}
use native.Mathlib.Omega.{arith}
use lib.ListN.{get_or}
use Rattle.std.specs.Int.{to_be_bytes}
use Rattle.tsparql.specs.Writing.{three_bytes}
use Rattle.blocks.specs.Buffers.{Filled, inserted, prepended}
use Rattle.blocks.specs.Lent.{held}
use Rattle.groups.proofs.put4.Goals as goal

number-bytes :
    (x : ℕ) (bs : List ℕ) → x < 16777216 → bs ≡ to_be_bytes w32 x → get_or bs 1 0 ∷ get_or bs 2 0 ∷ get_or bs 3 0 ∷ [] ≡ three_bytes x
number-bytes x bs h e =
    let p : x / 65536 % 256 ≡ x / 65536 = omega arith in
    rw e (rw p)

pub returns-clause-writes : goal.returns-clause-writes
unfolding prepended
returns-clause-writes c =
    let at = c.args.at in
    let bs = c.to_be_bytes.result in
    let b = held c.args.out.now in
    c.put-4.ensures.holds
    ∙ ap (λ (b : Filled). inserted b at 96)
    (c.put-3.ensures.holds
    ∙ ap (λ (b : Filled). inserted b at (get_or bs 1 0))
    (c.put-2.ensures.holds ∙ ap (λ (b : Filled). inserted b at (get_or bs 2 0)) c.put.ensures.holds))
    ∙ ap (λ (vs : List ℕ). prepended b at (96 ∷ vs)) (number-bytes c.args.x bs c.requires c.to_be_bytes.ensures)
