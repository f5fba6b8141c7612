-- A node that was read, by its head and its operands: what a recursion on operands needs to know of them. Assumes nothing.
use mathlib.Core.Path.{◌≡◌, refl, sym, ap, ◌∙◌}
use mathlib.Core.List.{List, [], ◌∷◌}
use Prim.Native.Nat.{ℕ, zero, suc, ◌+◌, ◌≤◌}
use native.Mathlib.Omega.{arith}
use lib.ListN.{length, drop}
use Rattle.tsparql.specs.Query.{Node, pattern_set, join, left_join, union, filter, project_trust, ensure_trust}
use Rattle.tsparql.specs.Reading.{Read, got, fault, read_node}
use Rattle.tsparql.specs.WellFormed.{NodeFormed}
use Rattle.tsparql.specs.Writing.{node_size}
use Rattle.heads.specs.declared.Head.{Head}
use Rattle.heads.specs.declared.Head.TheVariants as H
use Rattle.query.specs.Answers.{node_head}
use Rattle.heads.specs.Parts.{node_operands}
use Rattle.query.specs.Parts.{own_read}
use Rattle.query.specs.Found.{NodeSound, node_of}
use Rattle.query.proofs.ReadLaws.{place_of, fault-not-got}
use Rattle.query.proofs.NodeParts.{node-inside}
use Rattle.query.proofs.Forest.{ReadsAll, reads_all-inside, operands_in, operands_at, operands_at-positive, PatternsRead, head_length}
use Rattle.query.proofs.Forest.{NodeFound, node-found, own_read_lem, read-size, read-formed}

-- the head is the node's, and the place that of its operands
pub record Own (s : List ℕ) (h : Head) (k : ℕ) : Type 0 where
  pub head-is : node_head (node_of s) ≡ h
  pub place_is : operands_at (node_of s) (node_size (node_of s)) ≡ k
  pub formed : NodeFormed (node_of s)
  pub some : 1 ≤ k
  pub inside : k ≤ length s
  pub size-inside : node_size (node_of s) ≤ length s
  pub operands-are : ReadsAll s k (operands_in (node_of s)) (node_size (node_of s))
  pub parts_are : PatternsRead s (head_length h) (node_of s)

-- what was read is the node of the part
pub found-is : (s : List ℕ) (x : Node) (n : ℕ) → read_node s ≡ got x n → (node_of s ≡ x) × (node_size (node_of s) ≡ n)
found-is s x n e =
    let is : node_of s ≡ x = rw e in
    (is, ap node_size is ∙ sym (read-size s x n e))

own-node : {s : List ℕ} {h : Head} {k : ℕ} {x : Node} {n : ℕ} → NodeFound s x n → own_read s ≡ got h k
    → (node_head x ≡ h) × (operands_at x n ≡ k)
own-node f e =
    let is = sym (own_read_lem f) ∙ e in
    (cc, cc)

-- a part that starts with a node: it is read, up to its size
pub sound-read : (s : List ℕ) → NodeSound s → read_node s ≡ got (node_of s) (node_size (node_of s))
sound-read s sound = go (read_node s) refl
  where
    go : (r : Read Node) → read_node s ≡ r → read_node s ≡ got (node_of s) (node_size (node_of s))
    go (got x n) d = rw d (ap (got x) (read-size s x n d))
    go (fault p) d = absurd (rw d at sound)

-- in its parts
pub sound-found : (s : List ℕ) → NodeSound s → NodeFound s (node_of s) (node_size (node_of s))
sound-found s sound = node-found s (node_of s) (node_size (node_of s)) (sound-read s sound)

pub own-found : (s : List ℕ) (h : Head) (k : ℕ) → NodeSound s → own_read s ≡ got h k → Own s h k
own-found s h k sound e =
    let d = sound-read s sound in
    let f = sound-found s sound in
    let o = own-node f e in
    let size : node_size (node_of s) ≤ length s = omega (arith, ap place_of d, node-inside s) in
    let operands : ReadsAll s k (operands_in (node_of s)) (node_size (node_of s)) = rw (← o.1) f.operands-are in
    record {
      head-is = o.0;
      place_is = o.1;
      formed = read-formed s (node_of s) (node_size (node_of s)) d;
      some = omega (arith, o.1, operands_at-positive (node_of s));
      inside = omega (arith, size, reads_all-inside s k (operands_in (node_of s)) (node_size (node_of s)) operands);
      size-inside = size;
      operands-are = operands;
      parts_are = rw (← o.0, ← f.own_is) f.patterns-are;
    }

-- it has a head
pub own-sound : (s : List ℕ) (p : ℕ) → NodeSound s → own_read s ≡ fault p → ⊥
own-sound s p sound e = fault-not-got (sym e ∙ own_read_lem (sound-found s sound))

-- ---- no operand, one and two

-- a node has two operands at most
pub operands-few : (h : Head) → node_operands h ≤ 2
operands-few (H.PatternSet n) = omega arith
operands-few H.Join = omega arith
operands-few H.LeftJoin = omega arith
operands-few H.Union = omega arith
operands-few H.Filter = omega arith
operands-few (H.ProjectTrust v) = omega arith
operands-few (H.EnsureTrust l u) = omega arith

-- the operand stands behind the head, and is the last
pub record OneOperand (s : List ℕ) (k : ℕ) : Type 0 where
  pub sound : NodeSound (drop k s)
  pub operand : operands_in (node_of s) ≡ node_of (drop k s) ∷ []
  pub size : node_size (node_of s) ≡ k + node_size (node_of (drop k s))

-- the left operand stands behind the head, the right one behind the left, and is the last
pub record TwoOperands (s : List ℕ) (k m : ℕ) : Type 0 where
  pub left-sound : NodeSound (drop k s)
  pub right-sound : NodeSound (drop (k + m) s)
  pub operands : operands_in (node_of s) ≡ node_of (drop k s) ∷ node_of (drop (k + m) s) ∷ []
  pub size : node_size (node_of s) ≡ k + m + node_size (node_of (drop (k + m) s))

none_in : (x : Node) → node_operands (node_head x) ≡ 0 → operands_in x ≡ []
none_in (pattern_set ps) e = refl
none_in (join x y) e = absurd (omega arith)
none_in (left_join c x y) e = absurd (omega arith)
none_in (union x y) e = absurd (omega arith)
none_in (filter c x) e = absurd (omega arith)
none_in (project_trust v x) e = absurd (omega arith)
none_in (ensure_trust l u x) e = absurd (omega arith)

one_in : (x : Node) → node_operands (node_head x) ≡ 1 → (a : Node) × (operands_in x ≡ a ∷ [])
one_in (pattern_set ps) e = absurd (omega arith)
one_in (join x y) e = absurd (omega arith)
one_in (left_join c x y) e = absurd (omega arith)
one_in (union x y) e = absurd (omega arith)
one_in (filter c x) e = (x, refl)
one_in (project_trust v x) e = (x, refl)
one_in (ensure_trust l u x) e = (x, refl)

two_in : (x : Node) → node_operands (node_head x) ≡ 2 → (a : Node) × (b : Node) × (operands_in x ≡ a ∷ b ∷ [])
two_in (pattern_set ps) e = absurd (omega arith)
two_in (join x y) e = (x, y, refl)
two_in (left_join c x y) e = (x, y, refl)
two_in (union x y) e = (x, y, refl)
two_in (filter c x) e = absurd (omega arith)
two_in (project_trust v x) e = absurd (omega arith)
two_in (ensure_trust l u x) e = absurd (omega arith)

module _ {s : List ℕ} {h : Head} {k : ℕ} (o : Own s h k) where
  head-operands : node_operands (node_head (node_of s)) ≡ node_operands h
  head-operands = ap node_operands o.head-is

  pub no_operand : node_operands h ≡ 0 → (operands_in (node_of s) ≡ []) × (node_size (node_of s) ≡ k)
  no_operand e =
      let none = none_in (node_of s) (head-operands ∙ e) in
      (none, sym (rw none at o.operands-are))

  pub one-operand : node_operands h ≡ 1 → OneOperand s k
  one-operand e =
      let one = one_in (node_of s) (head-operands ∙ e) in
      let r = rw one.1 at o.operands-are in
      let is = found-is (drop k s) one.0 r.0 r.1 in
      record {
        sound = rw r.1 tt;
        operand = one.1 ∙ rw is.0;
        size = omega (arith, r.2, is.1);
      }

  pub two_operands : node_operands h ≡ 2 → TwoOperands s k (node_size (node_of (drop k s)))
  two_operands e =
      let two = two_in (node_of s) (head-operands ∙ e) in
      let r = rw two.2 at o.operands-are in
      let left = found-is (drop k s) two.0 r.0 r.1 in
      let read : read_node (drop (k + node_size (node_of (drop k s))) s) ≡ got two.1 r.2.0 = rw left.1 r.2.1 in
      let right = found-is (drop (k + node_size (node_of (drop k s))) s) two.1 r.2.0 read in
      record {
        left-sound = rw r.1 tt;
        right-sound = rw read tt;
        operands = cc (two.2, left.0, right.0);
        size = omega (arith, r.2.2, left.1, right.1);
      }

  -- a head with an operand has a first one
  pub first-sound : (node_operands h ≡ 0 → ⊥) → NodeSound (drop k s)
  first-sound some = go (node_operands h) refl (operands-few h)
    where
      go : (n : ℕ) → node_operands h ≡ n → n ≤ 2 → NodeSound (drop k s)
      go zero e l = absurd (some e)
      go (suc zero) e l = (one-operand e).sound
      go (suc (suc n)) e l = (two_operands (omega arith)).left-sound

  -- and one that has neither none nor one has two
  pub second-operand : (node_operands h ≡ 0 → ⊥) → (node_operands h ≡ 1 → ⊥) → TwoOperands s k (node_size (node_of (drop k s)))
  second-operand some more = two_operands (exactly (node_operands h) some more (operands-few h))
    where
      exactly : (n : ℕ) → (n ≡ 0 → ⊥) → (n ≡ 1 → ⊥) → n ≤ 2 → n ≡ 2
      exactly zero f g l = absurd (f refl)
      exactly (suc zero) f g l = absurd (g refl)
      exactly (suc (suc n)) f g l = omega arith
