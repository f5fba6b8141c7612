-- What is known of an output behind a writer: it keeps its length (`wrote-long`), and one writer's bytes stand behind another's
-- (`wrote-behind`). Assumes nothing.
use Rattle.std.proofs.Common.{◌≡◌, List, [], ◌++◌, ℕ, ◌+◌, ◌-◌, ◌≤◌, length, take, drop, sym, ap, ◌∙◌, refl, arith, append_assoc}
use Rattle.std.proofs.lemmas.List.{take_at, drop_at, drop-drop, drop_all, take_rest, append-nil, length-append, length-drop}
use borrow.Rule.Slice.PartMut.{put_mid}
use Rattle.encoding.specs.Writers.{Wrote}

-- an output keeps its length
pub wrote-long : (w out out₁ : List ℕ) (r : ℕ) → Wrote w out out₁ r → length w ≤ length out → length out₁ ≡ length out
wrote-long w out out₁ r first fits =
    ap length first.bytes ∙ omega (arith, length-append w (drop (length w) out), length-drop (length w) out)

-- bytes written, and bytes written into the rest of the output
pub wrote-behind : (w v out out₁ part : List ℕ) (at r : ℕ) → Wrote w out out₁ at → length w ≤ length out
    → Wrote v (take (length out₁ - at) (drop at out₁)) part r → Wrote (w ++ v) out (put_mid at (length out₁ - at) out₁ part) (at + r)
wrote-behind w v out out₁ part at r first fits second =
    let long = wrote-long w out out₁ at first fits in
    let front : take at out₁ ≡ w = ap (take at) first.bytes ∙ take_at w (drop (length w) out) at (sym first.size) in
    let rest : drop at out₁ ≡ drop (length w) out = ap (drop at) first.bytes ∙ drop_at w (drop (length w) out) at (sym first.size) in
    let lent = rw take_rest at second.bytes in
    let end : drop (length out₁ - at) (drop at out₁) ≡ [] =
    drop_all (length out₁ - at) (drop at out₁) (omega (arith, length-drop at out₁)) in
    record {
      size = omega (arith, first.size, second.size, length-append w v);
      bytes = rw (end, front, lent, rest, append-nil, length-append, ← drop-drop, append_assoc) refl;
    }
