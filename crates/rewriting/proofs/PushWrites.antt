-- The push of an operand into the rest of the output: what it needs (`operand-ready`), and what stands in the whole output behind it
-- (`push-behind`). Assumes nothing.
use mathlib.Core.Path.{◌≡◌, refl, sym, ap, ◌∙◌}
use mathlib.Core.List.{List, ◌++◌, append_assoc}
use Prim.Native.Nat.{ℕ, ◌+◌, ◌-◌, ◌≤◌, ◌<◌}
use native.Mathlib.Omega.{arith}
use borrow.Rule.Slice.PartMut.{put_mid}
use lib.ListN.{length, take, drop, length-append, length-drop}
use Rattle.tsparql.specs.Query.{Node, pattern_set, join, left_join, union, filter, project_trust, ensure_trust}
use Rattle.tsparql.specs.Push.{TrustBound, push, BoundFormed}
use Rattle.tsparql.specs.Writing.{node_bytes, node_size}
use Rattle.tsparql.specs.WellFormed.{Bytes, NodeFormed}
use Rattle.tsparql.specs.Rewrite.{rewrite_limit}
use Rattle.tsparql.proofs.PushQuery.{trust_floor-formed, meet-formed}
use Rattle.heads.specs.declared.Head.{Head}
use Rattle.query.specs.Answers.{node_head}
use Rattle.query.specs.Found.{NodeSound, node_of}
use Rattle.query.specs.Parts.{own_read}
use Rattle.tsparql.specs.Reading.{got}
use Rattle.encoding.specs.Writers.{Wrote}
use Rattle.std.specs.Prelude.{Ok}
use Rattle.std.proofs.lemmas.List.{take_rest}
use Rattle.heads.specs.Parts.{node_operands}
use Rattle.query.proofs.Operands.{Own, own-found, no_operand, one-operand, first-sound}
use Rattle.encoding.proofs.WriterLaws.{wrote-long, wrote-behind}
use Rattle.bounds.specs.Bounds.{first_bound, second_bound, own_push, own_size}
use Rattle.rewriting.specs.Answers.{Pushable, Pushes}
use Rattle.rewriting.proofs.PushSteps.{part-ready, answered-part, own-inside, own-taken, first-inside, size-two}
use Rattle.rewriting.proofs.PushSteps.{pushed_none, pushed-one, pushed-two}
use Rattle.rewriting.proofs.PushSteps.{FirstSized, first-sized, two-behind, second-sized}

-- ---- bounds in range

bounds-formed : (x : Node) (b : TrustBound) → NodeFormed x → BoundFormed b
    → BoundFormed (first_bound (node_head x) b) × BoundFormed (second_bound (node_head x) b)
bounds-formed (pattern_set ps) b f g = (g, g)
bounds-formed (join x y) b f g = (trust_floor-formed b g, trust_floor-formed b g)
bounds-formed (left_join c x y) b f g = (trust_floor-formed b g, tt)
bounds-formed (union x y) b f g = (g, g)
bounds-formed (filter c x) b f g = (g, g)
bounds-formed (project_trust v x) b f g = (g, g)
bounds-formed (ensure_trust l u x) b f g = (meet-formed b l u g f.0 f.1, g)

-- the operands' bounds are in range where the node's is
pub operands-formed : {s : List ℕ} {h : Head} {k : ℕ} → Own s h k → (b : TrustBound) → BoundFormed b
    → BoundFormed (first_bound h b) × BoundFormed (second_bound h b)
operands-formed {s} o b g = rw o.head-is at (bounds-formed (node_of s) b o.formed g)

-- ---- an operand

-- its part and the rest of the output are ready
pub operand-ready : (s : List ℕ) (k : ℕ) (d b : TrustBound) (out₁ : List ℕ) (at : ℕ) → NodeSound (drop k s) → 1 ≤ k → k ≤ length s
    → length s ≤ rewrite_limit → d ≡ b → BoundFormed b → node_size (push b (node_of (drop k s))) + at ≤ length out₁
    → (length (take (length s - k) (drop k s)) < length s)
    × Pushable (take (length s - k) (drop k s)) d (length (take (length out₁ - at) (drop at out₁)))
operand-ready s k d b out₁ at sound some inside short same formed room =
    let r = part-ready s k sound some inside short in (
      r.0,
      record {
        sound = r.1;
        short = r.2;
        formed = rw same formed;
        fits = rw (take_rest s k, take_rest out₁ at, same, length-drop at out₁) (omega arith);
      },
    )

-- its push behind what was written before
pub push-behind : (w out out₁ part : List ℕ) (at : ℕ) (s : List ℕ) (k : ℕ) (b d : TrustBound) {size next : ℕ}
    → Wrote w out out₁ at → length w ≤ length out → d ≡ b
    → Pushes (take (length s - k) (drop k s)) d (take (length out₁ - at) (drop at out₁)) part (Ok (size, next))
    → Wrote (w ++ node_bytes (push b (node_of (drop k s)))) out (put_mid at (length out₁ - at) out₁ part) (at + size)
push-behind w out out₁ part at s k b d first fits same pushes =
    let size = (answered-part s k b d same pushes.is).0 in
    let wrote : Wrote (node_bytes (push b (node_of (drop k s)))) (take (length out₁ - at) (drop at out₁)) part
    (node_size (push b (node_of (drop k s)))) = rw (take_rest s k, same) at pushes.wrote in
    wrote-behind w (node_bytes (push b (node_of (drop k s)))) out out₁ part at _ first fits (rw size wrote)

-- all of a node's push
pub pushes_all : (s : List ℕ) (b : TrustBound) (w out out' : List ℕ) {n next : ℕ} → node_bytes (push b (node_of s)) ≡ w → Wrote w out out' n
    → next ≡ node_size (node_of s) → Pushes s b out out' (Ok (n, next))
pushes_all s b w out out' {n} {next} e wrote end =
    let size : n ≡ node_size (push b (node_of s)) = wrote.size ∙ ap length (sym e) in
    record { is = cc; wrote = rw e (record { size = refl; bytes = wrote.bytes }) }

-- ---- a node's own part

-- what stands before its operands is written
pub record OwnWritten (s : List ℕ) (h : Head) (k : ℕ) (b : TrustBound) (out out₁ : List ℕ) (own : ℕ) : Type 0 where
  pub size : own ≡ own_size h b k
  pub fits : length (own_push h b (take k s)) ≤ length out
  pub long : length out₁ ≡ length out
  pub inside : own ≤ length out₁

pub own-written : {s : List ℕ} {h : Head} {k : ℕ} (o : Own s h k) (b : TrustBound) (out out₁ : List ℕ) (own : ℕ)
    → node_size (push b (node_of s)) ≤ length out → Wrote (own_push h b (take k s)) out out₁ own → OwnWritten s h k b out out₁ own
own-written {s} {h} {k} o b out out₁ own room w =
    let long : length (own_push h b (take k s)) ≡ own_size h b k = own-taken o b in
    let fits : length (own_push h b (take k s)) ≤ length out = omega (arith, long, own-inside o b) in
    let kept : length out₁ ≡ length out = wrote-long (own_push h b (take k s)) out out₁ own w fits in
    record { size = w.size ∙ long; fits = fits; long = kept; inside = omega (arith, w.size, kept, fits) }

-- where it has no operand, that is all
pub none-written : (s : List ℕ) {h : Head} {k : ℕ} (b : TrustBound) (out out₁ : List ℕ) (own : ℕ) {n : ℕ} → Bytes s → NodeSound s
    → got h k ≡ own_read s → Wrote (own_push h b (take k s)) out out₁ own → n ≡ node_operands h → n ≡ 0 → Pushes s b out out₁ (Ok (own, k))
none-written s {h} {k} b out out₁ own bytes sound read wrote count e =
    let o = own-found s h k sound (sym read) in
    let none : node_operands h ≡ 0 = omega (arith, count) in
    pushes_all s b _ out out₁ (pushed_none o b bytes sound none) wrote (sym (no_operand o none).1)

-- ---- the first operand

-- what its part and the rest of the output are ready for
pub first-ready : (s : List ℕ) {h : Head} {k : ℕ} (b d : TrustBound) (out out₁ : List ℕ) (own : ℕ)
    → Pushable s b (length out) → got h k ≡ own_read s → {n : ℕ} → n ≡ node_operands h → (n ≡ 0 → ⊥) → d ≡ first_bound h b
    → Wrote (own_push h b (take k s)) out out₁ own
    → (length (take (length s - k) (drop k s)) < length s)
    × Pushable (take (length s - k) (drop k s)) d (length (take (length out₁ - own) (drop own out₁)))
first-ready s {h} {k} b d out out₁ own pre read count is_some same wrote =
    let o = own-found s h k pre.sound (sym read) in
    let some = rw count at is_some in
    let w = own-written o b out out₁ own pre.fits wrote in
    operand-ready s k d (first_bound h b) out₁ own (first-sound o some) o.some o.inside pre.short same
    (operands-formed o b pre.formed).0 (omega (arith, w.long, w.size, (first-inside o b some).1, pre.fits))

-- its push behind the node's own part
pub record FirstWritten (s : List ℕ) (h : Head) (k : ℕ) (b : TrustBound) (out out₂ : List ℕ) (own left next : ℕ) : Type 0 where
  pub sized : FirstSized s h k b left next
  pub size : own ≡ own_size h b k
  pub wrote : Wrote (own_push h b (take k s) ++ node_bytes (push (first_bound h b) (node_of (drop k s)))) out out₂ (own + left)
  pub fits : length (own_push h b (take k s) ++ node_bytes (push (first_bound h b) (node_of (drop k s)))) ≤ length out
  pub long : length out₂ ≡ length out
  pub inside : own + left ≤ length out₂

pub first-written : (s : List ℕ) {h : Head} {k : ℕ} (b d : TrustBound) (out out₁ part : List ℕ) (own : ℕ) {left next : ℕ}
    → Pushable s b (length out) → got h k ≡ own_read s → Wrote (own_push h b (take k s)) out out₁ own
    → {n : ℕ} → n ≡ node_operands h → (n ≡ 0 → ⊥) → d ≡ first_bound h b
    → Pushes (take (length s - k) (drop k s)) d (take (length out₁ - own) (drop own out₁)) part (Ok (left, next))
    → FirstWritten s h k b out (put_mid own (length out₁ - own) out₁ part) own left next
first-written s {h} {k} b d out out₁ part own {left} pre read w count some same pushes =
    let x = first-sized s b pre.sound read count some same pushes.is in
    let o = x.own in
    let mine = own-written o b out out₁ own pre.fits w in
    let wrote = push-behind (own_push h b (take k s)) out out₁ part own s k (first_bound h b) d w mine.fits same pushes in
    let first = node_bytes (push (first_bound h b) (node_of (drop k s))) in
    let fits : length (own_push h b (take k s) ++ first) ≤ length out =
    omega (arith, length-append (own_push h b (take k s)) first, own-taken o b, x.inside, x.left_is, pre.fits) in
    let long = wrote-long (own_push h b (take k s) ++ first) out (put_mid own (length out₁ - own) out₁ part) (own + left) wrote fits in
    record { sized = x; size = mine.size; wrote = wrote; fits = fits; long = long; inside = omega (arith, wrote.size, fits, long) }

-- where it is the only one, that is all
pub one-written : {s : List ℕ} {h : Head} {k : ℕ} {b : TrustBound} {out out₂ : List ℕ} {own left next n : ℕ} → Bytes s
    → Pushable s b (length out) → FirstWritten s h k b out out₂ own left next → n ≡ node_operands h → n ≡ 1
    → Pushes s b out out₂ (Ok (own + left, k + next))
one-written {s} {h} {k} {b} {out} bytes pre f count e =
    let one : node_operands h ≡ 1 = omega (arith, count) in
    pushes_all s b _ out _ (pushed-one f.sized.own b bytes pre.sound one) f.wrote
    (omega (arith, f.sized.next-is, (one-operand f.sized.own one).size))

-- ---- the second operand

module _ {s : List ℕ} {h : Head} {k : ℕ} {b : TrustBound} {out out₂ : List ℕ} {own left next : ℕ} (pre : Pushable s b (length out))
    (f : FirstWritten s h k b out out₂ own left next) {n : ℕ} (count : n ≡ node_operands h) (more : n ≡ 1 → ⊥) {d : TrustBound}
    (same : d ≡ second_bound h b) where
  -- what its part and the rest of the output are ready for
  pub second-ready : (length (take (length s - (k + next)) (drop (k + next) s)) < length s)
      × Pushable (take (length s - (k + next)) (drop (k + next) s)) d (length (take (length out₂ - (own + left)) (drop (own + left) out₂)))
  second-ready =
      let o = f.sized.own in
      let two = two-behind f.sized count more in
      operand-ready s (k + next) d (second_bound h b) out₂ (own + left) two.right-sound (omega (arith, o.some)) f.sized.place pre.short
      same (operands-formed o b pre.formed).1
      (omega (arith, f.long, f.size, f.sized.left_is, size-two o b next two, pre.fits))

  -- its push behind that of the first: all of the node's
  pub second-written : (part : List ℕ) {right last : ℕ} → Bytes s
      → Pushes (take (length s - (k + next)) (drop (k + next) s)) d (take (length out₂ - (own + left)) (drop (own + left) out₂)) part
      (Ok (right, last))
      → Pushes s b out (put_mid (own + left) (length out₂ - (own + left)) out₂ part) (Ok (own + left + right, k + next + last))
  second-written part bytes pushes =
      let o = f.sized.own in
      let y = second-sized f.sized count more same pushes.is in
      let w = own_push h b (take k s) ++ node_bytes (push (first_bound h b) (node_of (drop k s))) in
      let wrote = push-behind w out out₂ part (own + left) s (k + next) (second_bound h b) d f.wrote f.fits same pushes in
      let all =
      pushed-two o b next (two-behind f.sized count more) bytes pre.sound
      ∙ sym (append_assoc (own_push h b (take k s)) (node_bytes (push (first_bound h b) (node_of (drop k s))))
      (node_bytes (push (second_bound h b) (node_of (drop (k + next) s))))) in
      pushes_all s b _ out _ all wrote y.place
