-- The push of a node by its head and its operands: what stands before the operands, then the operands' pushes (`push-bytes`); and what
-- stands before the operands of a node that was read is the part up to them (`own-bytes`). Assumes nothing.
use mathlib.Core.Path.{◌≡◌, refl, sym, ap, ◌∙◌}
use mathlib.Core.Bool.{Bool, true, false, cond}
use mathlib.Core.List.{List, [], ◌∷◌, ◌++◌, append-nil}
use Prim.Native.Nat.{ℕ, ◌+◌, ◌-◌, ◌*◌, ◌≤◌}
use native.Mathlib.Omega.{arith}
use borrow.Rule.Slice.PartMut.{put_mid}
use lib.Dec.{ltb}
use lib.ListN.{length, take, drop, length-append}
use lib.Seq.{take-take, take-append_seam}
use Rattle.tsparql.specs.Query.{Node, pattern_set, join, left_join, union, filter, project_trust, ensure_trust}
use Rattle.tsparql.specs.Push.{TrustBound, no_bound, between, push}
use Rattle.tsparql.specs.Writing.{first_byte, three_bytes, condition_bytes, node_bytes, node_size}
use Rattle.tsparql.specs.Reading.{Read, got, fault, read_node}
use Rattle.tsparql.specs.WellFormed.{Bytes}
use Rattle.tsparql.proofs.WrittenRead.{ReadsNode, read_node-sound}
use Rattle.heads.specs.declared.Head.{Head}
use Rattle.heads.specs.declared.Head.TheVariants as H
use Rattle.encoding.specs.Writers.{Wrote}
use Rattle.encoding.proofs.WriterLaws.{wrote-behind}
use Rattle.query.specs.Answers.{node_head}
use Rattle.query.specs.Found.{NodeSound, node_of}
use Rattle.query.proofs.Forest.{operands_in, operands_at}
use Rattle.bounds.specs.Bounds.{first_bound, second_bound, wrapped, stays, wrap_bytes, own_push, own_size}

-- ---- the bytes of a node in parts

-- what stands before a node's operands
abbrev pub own_bytes : Node → List ℕ
own_bytes (pattern_set ps) = node_bytes (pattern_set ps)
own_bytes (join x y) = first_byte 1 0 ∷ []
own_bytes (left_join c x y) = first_byte 2 0 ∷ condition_bytes c
own_bytes (union x y) = first_byte 3 0 ∷ []
own_bytes (filter c x) = first_byte 4 0 ∷ condition_bytes c
own_bytes (project_trust v x) = first_byte 5 v ∷ []
own_bytes (ensure_trust l u x) = first_byte 6 0 ∷ three_bytes (4096 * l + u)

-- the operands' bytes
abbrev pub all_bytes : List Node → List ℕ
all_bytes [] = []
all_bytes (x ∷ []) = node_bytes x
all_bytes (x ∷ (y ∷ rest)) = node_bytes x ++ node_bytes y

node-bytes : (x : Node) → node_bytes x ≡ own_bytes x ++ all_bytes (operands_in x)
unfolding node_bytes
node-bytes (pattern_set ps) = sym (append-nil (node_bytes (pattern_set ps)))
node-bytes (join x y) = refl
node-bytes (left_join c x y) = refl
node-bytes (union x y) = refl
node-bytes (filter c x) = refl
node-bytes (project_trust v x) = refl
node-bytes (ensure_trust l u x) = refl

pub own-length : (x : Node) → length (own_bytes x) ≡ operands_at x (node_size x)
own-length (pattern_set ps) = refl
own-length (join x y) = refl
own-length (left_join c x y) = omega arith
own-length (union x y) = refl
own-length (filter c x) = omega arith
own-length (project_trust v x) = refl
own-length (ensure_trust l u x) = refl

-- the part up to the operands
pub own-bytes : (s : List ℕ) → Bytes s → NodeSound s → take (operands_at (node_of s) (node_size (node_of s))) s ≡ own_bytes (node_of s)
own-bytes s bytes sound = go (read_node s) refl (read_node-sound s)
  where
    go : (r : Read Node) → read_node s ≡ r → ReadsNode s r
        → take (operands_at (node_of s) (node_size (node_of s))) s ≡ own_bytes (node_of s)
    go (got x n) d h =
        let k = length (own_bytes x) in
        let size : n ≡ k + length (all_bytes (operands_in x)) =
        h.1.size ∙ ap length (node-bytes x) ∙ length-append (own_bytes x) (all_bytes (operands_in x)) in
        let whole : take n s ≡ own_bytes x ++ all_bytes (operands_in x) = h.1.bytes bytes ∙ node-bytes x in
        let taken : take k s ≡ own_bytes x =
        sym (take-take k n s (omega arith)) ∙ ap (take k) whole ∙ take-append_seam (own_bytes x) (all_bytes (operands_in x)) in
        let is : node_of s ≡ x = rw d in
        rw (is, ← own-length x) taken
    go (fault p) d h = absurd (rw d at sound)

-- ---- the push

-- the pushes of the operands, the first and the second under bounds of their own
abbrev pub pushes_of : TrustBound → TrustBound → List Node → List Node
pushes_of b c [] = []
pushes_of b c (x ∷ []) = push b x ∷ []
pushes_of b c (x ∷ (y ∷ rest)) = push b x ∷ push c y ∷ []

-- what comes before the operands of a push, and then their pushes
pub push-bytes : (b : TrustBound) (x : Node)
    → node_bytes (push b x)
    ≡ own_push (node_head x) b (own_bytes x)
    ++ all_bytes (pushes_of (first_bound (node_head x) b) (second_bound (node_head x) b) (operands_in x))
unfolding push node_bytes own_push
push-bytes no_bound (pattern_set ps) = sym (append-nil (node_bytes (pattern_set ps)))
push-bytes (between l u) (pattern_set ps) = sym (append-nil (node_bytes (ensure_trust l u (pattern_set ps))))
push-bytes no_bound (join x y) = refl
push-bytes (between l u) (join x y) = go (ltb u 2000)
  where
    px : Node
    px = push (between l 2000) x

    py : Node
    py = push (between l 2000) y

    go : (t : Bool)
        → node_bytes (cond t (ensure_trust l u (join px py)) (join px py))
        ≡ (cond t (wrap_bytes (between l u)) [] ++ first_byte 1 0 ∷ []) ++ (node_bytes px ++ node_bytes py)
    go true = refl
    go false = refl
push-bytes no_bound (left_join c x y) = refl
push-bytes (between l u) (left_join c x y) = refl
push-bytes b (union x y) = refl
push-bytes b (filter c x) = refl
push-bytes b (project_trust v x) = refl
push-bytes b (ensure_trust l u x) = refl

-- ---- what comes before the operands

-- only a bound wraps
unbound-bare : (h : Head) → wrapped h no_bound ≡ false
unbound-bare (H.PatternSet n) = refl
unbound-bare H.Join = refl
unbound-bare H.LeftJoin = refl
unbound-bare H.Union = refl
unbound-bare H.Filter = refl
unbound-bare (H.ProjectTrust v) = refl
unbound-bare (H.EnsureTrust l u) = refl

pub wrap-size : (h : Head) (b : TrustBound) → wrapped h b ≡ true → length (wrap_bytes b) ≡ 4
wrap-size h no_bound e = absurd (let z : ◌≡◌ {A = ℕ} 0 1 = cc (unbound-bare h) in omega arith)
wrap-size h (between l u) e = refl

pub own-size : (h : Head) (b : TrustBound) (w : List ℕ) → length (own_push h b w) ≡ own_size h b (length w)
unfolding own_push
own-size h b w = go (stays h) (wrapped h b) refl
  where
    go : (t v : Bool) → wrapped h b ≡ v
        → length (cond t (cond v (wrap_bytes b) [] ++ w) []) ≡ cond t (cond v (4 + length w) (length w)) 0
    go true true e = omega (arith, wrap-size h b e, length-append (wrap_bytes b) w)
    go true false e = refl
    go false v e = refl

-- where the node goes, nothing
pub own-gone : (h : Head) (b : TrustBound) (w out : List ℕ) → stays h ≡ false → Wrote (own_push h b w) out out 0
unfolding own_push
own-gone h b w out d = rw d (record { size = refl; bytes = refl })

-- else the wrap, where it is wrapped, and the rest behind it
pub wrote-own : (h : Head) (b : TrustBound) (w out out₁ part : List ℕ) (at r : ℕ) → stays h ≡ true → own_size h b (length w) ≤ length out
    → Wrote (cond (wrapped h b) (wrap_bytes b) []) out out₁ at → Wrote w (take (length out₁ - at) (drop at out₁)) part r
    → Wrote (own_push h b w) out (put_mid at (length out₁ - at) out₁ part) (at + r)
unfolding own_push
wrote-own h b w out out₁ part at r kept room wrap copied =
    let wrapping = cond (wrapped h b) (wrap_bytes b) [] in
    let size : length (wrapping ++ w) ≤ length out = rw (← own-size h b w, kept) at room in
    rw kept (wrote-behind wrapping w out out₁ part at r wrap (omega (arith, size, length-append wrapping w)) copied)
