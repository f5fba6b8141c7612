-- The steps of the recursion over a node's parts: what is known of the parts of its operands, and the push put together from theirs, by
-- sizes and by bytes. Assumes nothing.
use mathlib.Core.Path.{◌≡◌, refl, sym, ap, subst, ◌∙◌}
use mathlib.Core.List.{List, ◌++◌, append-nil}
use Prim.Native.Nat.{ℕ, zero, suc, ◌+◌, ◌-◌, ◌*◌, ◌≤◌, ◌<◌}
use native.Mathlib.Omega.{arith}
use lib.ListN.{length, take, drop, length-append, length-drop}
use lib.Seq.{length-take-le}
use Rattle.std.proofs.lemmas.List.{take_rest}
use Rattle.tsparql.specs.Push.{TrustBound, push}
use Rattle.tsparql.specs.Writing.{node_bytes, node_size}
use Rattle.tsparql.specs.WellFormed.{Bytes}
use Rattle.tsparql.specs.Rewrite.{rewrite_limit}
use Rattle.tsparql.proofs.PushQuery.{push-size-≤}
use Rattle.heads.specs.declared.Head.{Head}
use Rattle.heads.specs.Parts.{node_operands}
use Rattle.query.specs.Found.{NodeSound, node_of}
use Rattle.query.specs.Parts.{own_read}
use Rattle.query.proofs.Forest.{operands_in}
use Rattle.query.proofs.Operands.{Own, own-found, TwoOperands, operands-few, no_operand, one-operand, two_operands, second-operand}
use Rattle.bounds.specs.Bounds.{first_bound, second_bound, own_push, own_size}
use Rattle.tsparql.specs.Reading.{Read, got}
use Rattle.rewriting.specs.Answers.{pushed}
use Rattle.rewriting.proofs.PushParts.{own_bytes, all_bytes, pushes_of, own-bytes, own-length, push-bytes, own-size}

-- ---- the part of an operand

-- it starts with a node, is shorter than the whole, and short enough
pub part-ready : (s : List ℕ) (k : ℕ) → NodeSound (drop k s) → 1 ≤ k → k ≤ length s → length s ≤ rewrite_limit
    → let part : List ℕ = take (length s - k) (drop k s) in
    (length part < length s) × NodeSound part × (length part ≤ rewrite_limit)
part-ready s k sound some inside short =
    rw take_rest (omega (arith, length-drop k s), sound, omega (arith, length-drop k s))

-- a size and a place
pub got-is : {a b c d : ℕ} → a ≡ c → b ≡ d → ◌≡◌ {A = Read ℕ} (got a b) (got c d)
got-is e f = cc

-- what was answered for it
pub answered-part : (s : List ℕ) (k : ℕ) (b d : TrustBound) {size next : ℕ} → d ≡ b
    → got size next ≡ pushed (take (length s - k) (drop k s)) d
    → (size ≡ node_size (push b (node_of (drop k s)))) × (next ≡ node_size (node_of (drop k s)))
answered-part s k b d same found = let is = rw (take_rest, same) at found in (cc, cc)

-- ---- the push put together

module _ {s : List ℕ} {h : Head} {k : ℕ} (o : Own s h k) (b : TrustBound) where
  here : node_bytes (push b (node_of s))
      ≡ own_push h b (own_bytes (node_of s)) ++ all_bytes (pushes_of (first_bound h b) (second_bound h b) (operands_in (node_of s)))
  here = rw o.head-is at (push-bytes b (node_of s))

  own-here : length (own_push h b (own_bytes (node_of s))) ≡ own_size h b k
  own-here = own-size h b (own_bytes (node_of s)) ∙ ap (own_size h b) (own-length (node_of s) ∙ o.place_is)

  taken : Bytes s → NodeSound s → take k s ≡ own_bytes (node_of s)
  taken bytes sound = rw o.place_is at (own-bytes s bytes sound)

  -- at most 5 times as long as the part
  pub push-inside : node_size (push b (node_of s)) ≤ 5 * length s
  push-inside = omega (arith, push-size-≤ b (node_of s), o.size-inside)

  -- no operand
  bytes-none : node_operands h ≡ 0 → node_bytes (push b (node_of s)) ≡ own_push h b (own_bytes (node_of s))
  bytes-none e = here ∙ rw (no_operand o e).0 (append-nil (own_push h b (own_bytes (node_of s))))

  pub size_none : node_operands h ≡ 0 → node_size (push b (node_of s)) ≡ own_size h b k
  size_none e = ap length (bytes-none e) ∙ own-here

  pub pushed_none : Bytes s → NodeSound s → node_operands h ≡ 0 → node_bytes (push b (node_of s)) ≡ own_push h b (take k s)
  pushed_none bytes sound e = bytes-none e ∙ ap (own_push h b) (sym (taken bytes sound))

  -- one
  bytes_one : node_operands h ≡ 1
      → node_bytes (push b (node_of s)) ≡ own_push h b (own_bytes (node_of s)) ++ node_bytes (push (first_bound h b) (node_of (drop k s)))
  bytes_one e = here ∙ rw (one-operand o e).operand

  pub size-one : node_operands h ≡ 1
      → node_size (push b (node_of s)) ≡ own_size h b k + node_size (push (first_bound h b) (node_of (drop k s)))
  size-one e =
      let x = node_bytes (push (first_bound h b) (node_of (drop k s))) in
      ap length (bytes_one e) ∙ length-append (own_push h b (own_bytes (node_of s))) x ∙ rw own-here

  pub pushed-one : Bytes s → NodeSound s → node_operands h ≡ 1
      → node_bytes (push b (node_of s)) ≡ own_push h b (take k s) ++ node_bytes (push (first_bound h b) (node_of (drop k s)))
  pushed-one bytes sound e =
      bytes_one e ∙ ap (λ w. own_push h b w ++ node_bytes (push (first_bound h b) (node_of (drop k s)))) (sym (taken bytes sound))

  -- two
  bytes-two : (m : ℕ) → TwoOperands s k m
      → node_bytes (push b (node_of s))
      ≡ own_push h b (own_bytes (node_of s))
      ++ (node_bytes (push (first_bound h b) (node_of (drop k s))) ++ node_bytes (push (second_bound h b) (node_of (drop (k + m) s))))
  bytes-two m two = here ∙ rw two.operands

  pub size-two : (m : ℕ) → TwoOperands s k m
      → node_size (push b (node_of s))
      ≡ own_size h b k + node_size (push (first_bound h b) (node_of (drop k s)))
      + node_size (push (second_bound h b) (node_of (drop (k + m) s)))
  size-two m two =
      let x = node_bytes (push (first_bound h b) (node_of (drop k s))) in
      let y = node_bytes (push (second_bound h b) (node_of (drop (k + m) s))) in
      let w = own_push h b (own_bytes (node_of s)) in
      omega (arith, ap length (bytes-two m two), length-append w (x ++ y), length-append x y, own-here)

  pub pushed-two : (m : ℕ) → TwoOperands s k m → Bytes s → NodeSound s
      → node_bytes (push b (node_of s))
      ≡ own_push h b (take k s)
      ++ (node_bytes (push (first_bound h b) (node_of (drop k s))) ++ node_bytes (push (second_bound h b) (node_of (drop (k + m) s))))
  pushed-two m two bytes sound =
      let x = node_bytes (push (first_bound h b) (node_of (drop k s))) in
      let y = node_bytes (push (second_bound h b) (node_of (drop (k + m) s))) in
      bytes-two m two ∙ ap (λ w. own_push h b w ++ (x ++ y)) (sym (taken bytes sound))

  -- the first operand's part and push are inside the node's
  pub first-inside : (node_operands h ≡ 0 → ⊥)
      → (k + node_size (node_of (drop k s)) ≤ length s)
      × (own_size h b k + node_size (push (first_bound h b) (node_of (drop k s))) ≤ node_size (push b (node_of s)))
  first-inside some = go (node_operands h) refl (operands-few h)
    where
      go : (n : ℕ) → node_operands h ≡ n → n ≤ 2
          → (k + node_size (node_of (drop k s)) ≤ length s)
          × (own_size h b k + node_size (push (first_bound h b) (node_of (drop k s))) ≤ node_size (push b (node_of s)))
      go zero e l = absurd (some e)
      go (suc zero) e l = (omega (arith, (one-operand o e).size, o.size-inside), omega (arith, size-one e))
      go (suc (suc n)) e l =
          let two = two_operands o (omega arith) in
          (omega (arith, two.size, o.size-inside), omega (arith, size-two (node_size (node_of (drop k s))) two))

  -- what comes before the operands
  pub own-inside : own_size h b k ≤ node_size (push b (node_of s))
  own-inside =
      let operands = all_bytes (pushes_of (first_bound h b) (second_bound h b) (operands_in (node_of s))) in
      omega (arith, ap length here, length-append (own_push h b (own_bytes (node_of s))) operands, own-here)

  pub own-taken : length (own_push h b (take k s)) ≡ own_size h b k
  own-taken = own-size h b (take k s) ∙ ap (own_size h b) (length-take-le k s o.inside)

-- ---- the operands' answers

-- the first operand: its size and next place, and that its part and its push are inside the node's
pub record FirstSized (s : List ℕ) (h : Head) (k : ℕ) (b : TrustBound) (left next : ℕ) : Type 0 where
  pub own : Own s h k
  pub some : node_operands h ≡ 0 → ⊥
  pub left_is : left ≡ node_size (push (first_bound h b) (node_of (drop k s)))
  pub next-is : next ≡ node_size (node_of (drop k s))
  pub place : k + next ≤ length s
  pub inside : own_size h b k + left ≤ node_size (push b (node_of s))
  pub small : own_size h b k + left ≤ 5 * length s

pub first-sized : (s : List ℕ) {h : Head} {k : ℕ} (b : TrustBound) {n : ℕ} {d : TrustBound} {left next : ℕ}
    → NodeSound s → got h k ≡ own_read s → n ≡ node_operands h → (n ≡ 0 → ⊥) → d ≡ first_bound h b
    → got left next ≡ pushed (take (length s - k) (drop k s)) d → FirstSized s h k b left next
first-sized s {h} {k} b {n} {d} sound read count is_some same found =
    let o = own-found s h k sound (sym read) in
    let some = rw count at is_some in
    let a = answered-part s k (first_bound h b) d same found in
    let inside = first-inside o b some in
    record {
      own = o;
      some = some;
      left_is = a.0;
      next-is = a.1;
      place = omega (arith, a.1, inside.0);
      inside = omega (arith, a.0, inside.1);
      small = omega (arith, a.0, inside.1, push-inside o b);
    }

-- no operand, and one: all of the push, and the end of the node
module _ {s : List ℕ} {h : Head} {k : ℕ} (b : TrustBound) {own n : ℕ} (size : own ≡ own_size h b k) (count : n ≡ node_operands h) where
  pub none-sized : Own s h k → n ≡ 0 → got own k ≡ pushed s b
  none-sized o e =
      let none : node_operands h ≡ 0 = omega (arith, count) in
      got-is (size ∙ sym (size_none o b none)) (sym (no_operand o none).1)

  pub one-sized : {left next : ℕ} → FirstSized s h k b left next → n ≡ 1 → got (own + left) (k + next) ≡ pushed s b
  one-sized f e =
      let one : node_operands h ≡ 1 = omega (arith, count) in
      got-is (omega (arith, f.left_is, size, size-one f.own b one)) (omega (arith, f.next-is, (one-operand f.own one).size))

-- the second behind the first: all of the push, and the end of the node
pub record SecondSized (s : List ℕ) (h : Head) (k : ℕ) (b : TrustBound) (left next right last : ℕ) : Type 0 where
  pub total : own_size h b k + left + right ≡ node_size (push b (node_of s))
  pub place : k + next + last ≡ node_size (node_of s)

module _ {s : List ℕ} {h : Head} {k : ℕ} {b : TrustBound} {left next : ℕ} (f : FirstSized s h k b left next)
    {n : ℕ} (count : n ≡ node_operands h) (more : n ≡ 1 → ⊥) where
  pub two-behind : TwoOperands s k next
  two-behind = subst (TwoOperands s k) (sym f.next-is) (second-operand f.own f.some (rw count at more))

  pub second-sized : {d : TrustBound} {right last : ℕ} → d ≡ second_bound h b
      → got right last ≡ pushed (take (length s - (k + next)) (drop (k + next) s)) d
      → SecondSized s h k b left next right last
  second-sized {d} same found =
      let a = answered-part s (k + next) (second_bound h b) d same found in
      record {
        total = omega (arith, a.0, f.left_is, size-two f.own b next two-behind);
        place = omega (arith, a.1, two-behind.size);
      }
