-- What a reader gives is well-formed, and is written as what was read (specs/Reading.antt, specs/Writing.antt): the next place is
-- the number of bytes that the tree is written as, no place is behind the end, and those bytes are the tree's, where the numbers
-- read are bytes. Only that last equation assumes it.
-- Groups: bytes and parts; what a reader finds; slots and patterns; operands behind a head; conditions; nodes; queries.
-- Assumes nothing.
use mathlib.Core.Path.{◌≡◌, refl, sym, ap, ◌∙◌}
use mathlib.Core.Bool.{Bool, true, false, ◌&&◌, cond}
use mathlib.Core.List.{List, [], ◌∷◌, ◌++◌, append_assoc}
use Prim.Native.Nat.{ℕ, zero, suc, ◌+◌, ◌-◌, ◌*◌, ◌/◌, ◌%◌, ◌≤◌, ◌<◌, zero-le}
use native.Mathlib.Nat.{add-zero}
use native.Mathlib.Numerals.{add-one, add-two}
use native.Mathlib.Omega.{arith}
use borrow.Author.Tests.{leb-true, ltb-true, ltb-false, eqb-true, eqb-false}
use lib.Dec.{eqb, leb, ltb}
use lib.ListN.{length, get_or, take, drop, length-append, length-drop}
use lib.Seq.{drop-cons, take-add, get_or-drop, drop-drop, take_all}
use Rattle.tsparql.specs.Lists.{Every, concat_map}
use Rattle.tsparql.specs.Query.{Slot, a_term, a_variable, Pattern}
use Rattle.tsparql.specs.Query.{Condition, same, less, negation, conjunction, disjunction, always}
use Rattle.tsparql.specs.Query.{Node, join, left_join, union, filter, project_trust, ensure_trust}
use Rattle.tsparql.specs.Writing.{first_byte, three_bytes, slot_number, pattern_bytes, condition_bytes, node_bytes, node_size}
use Rattle.tsparql.specs.Reading.{Read, got, fault, and_then, require, kind_of, low_of, low_zero, bits24}
use Rattle.tsparql.specs.Reading.{term_sound, slot_sound, slot_of, read_pattern, read_patterns}
use Rattle.tsparql.specs.Reading.{two_variables, variable_term, condition_step, read_condition_in, read_condition}
use Rattle.tsparql.specs.Reading.{n_patterns, one_node, two_nodes, after_condition, bounded_node, node_step, read_node_in, read_node}
use Rattle.tsparql.specs.Reading.{whole_query, read_query}
use Rattle.tsparql.proofs.ListLaws.{and_left, and_right, or_right}
use Rattle.tsparql.specs.WellFormed.{Bytes, TermFormed, SlotFormed, PatternFormed, ConditionFormed, NodeFormed}

-- ---- bytes and parts

-- the first n numbers of s are the bytes xs
pub record Part (s : List ℕ) (n : ℕ) (xs : List ℕ) : Type 0 where
  pub size : n ≡ length xs
  pub inside : n ≤ length s
  pub bytes : Bytes s → take n s ≡ xs

bytes_drop : (s : List ℕ) (n : ℕ) → Bytes s → Bytes (drop n s)
bytes_drop s n h i = rw (get_or-drop n s i 0) (h (n + i))

part_none : (s : List ℕ) → Part s 0 []
part_none s = record { size = refl; inside = zero-le; bytes = λ h. refl }

-- a part, and another one behind it
part-append : (s : List ℕ) (n m : ℕ) (xs ys : List ℕ) → Part s n xs → Part (drop n s) m ys → Part s (n + m) (xs ++ ys)
part-append s n m xs ys p q = record {
  size = omega (arith, length-append xs ys);
  inside = omega (arith, length-drop n s);
  bytes = λ h. take-add n m s ∙ rw (p.bytes h, q.bytes (bytes_drop s n h));
}

take-cons : (s : List ℕ) (j n : ℕ) → j < length s → take (suc n) (drop j s) ≡ get_or s j 0 ∷ take n (drop (suc j) s)
take-cons s j n h = ap (take (suc n)) (drop-cons s j 0 h)

-- one byte at a place
part-byte : (s : List ℕ) (j : ℕ) → j < length s → Part (drop j s) 1 (get_or s j 0 ∷ [])
part-byte s j l = record { size = refl; inside = omega (arith, length-drop j s); bytes = λ h. take-cons s j 0 l }

-- the first byte, where its kind and n are known
part-first_byte : (s : List ℕ) (k n : ℕ) → 1 ≤ length s → kind_of s ≡ k → low_of s ≡ n → Part s 1 (first_byte k n ∷ [])
part-first_byte s k n l d e =
    let b : get_or s 0 0 ≡ first_byte k n = omega arith in
    rw b at (part-byte s 0 l)

-- the 24 bits of three bytes are written as those bytes
three_bytes-bits24 : (a b c : ℕ) → a < 256 → b < 256 → c < 256 → three_bytes (bits24 (a ∷ b ∷ c ∷ []) 0) ≡ a ∷ b ∷ c ∷ []
three_bytes-bits24 a b c h i j =
    let x : ℕ = bits24 (a ∷ b ∷ c ∷ []) 0 in
    let p : x / 65536 ≡ a = omega arith in
    let q : x / 256 % 256 ≡ b = omega arith in
    let r : x % 256 ≡ c = omega arith in
    rw (p, q, r)

-- three bytes at a place
part-three_bytes : (s : List ℕ) (j : ℕ) → j + 3 ≤ length s → Part (drop j s) 3 (three_bytes (bits24 s j))
part-three_bytes s j l = record { size = refl; inside = omega (arith, length-drop j s); bytes = λ h. taken ∙ sym (written h) }
  where
    byte : Bytes (drop j s) → (i : ℕ) → get_or s (j + i) 0 < 256
    byte h i = rw (get_or-drop j s i 0) at (h i)

    taken : take 3 (drop j s) ≡ get_or s j 0 ∷ get_or s (j + 1) 0 ∷ get_or s (j + 2) 0 ∷ []
    taken =
        take-cons s j 2 (omega arith)
        ∙ rw (take-cons s (suc j) 1 (omega arith), take-cons s (suc (suc j)) 0 (omega arith), add-one j, add-two j)

    written : Bytes (drop j s) → three_bytes (bits24 s j) ≡ get_or s j 0 ∷ get_or s (j + 1) 0 ∷ get_or s (j + 2) 0 ∷ []
    written h =
        three_bytes-bits24 (get_or s j 0) (get_or s (j + 1) 0) (get_or s (j + 2) 0) (rw (add-zero j) at (byte h 0)) (byte h 1) (byte h 2)

-- ---- what a reader finds

-- P of the value and the next place, or a fault that is not behind the part's end
abbrev pub Finds : {A : Type 0} → (A → ℕ → Type 0) → List ℕ → Read A → Type 0
Finds P s (got a n) = P a n
Finds P s (fault p) = p ≤ length s

-- a formed value, written as the bytes up to the next place
abbrev pub Found : {A : Type 0} → (A → Type 0) → (A → List ℕ) → List ℕ → A → ℕ → Type 0
Found F write s a n = F a × Part s n (write a)

abbrev pub Reads : {A : Type 0} → (A → Type 0) → (A → List ℕ) → List ℕ → Read A → Type 0
Reads F write s r = Finds (Found F write s) s r

module _ {A : Type 0} (P : A → ℕ → Type 0) (s : List ℕ) where
  finds-require : (b : Bool) (r : Read A) → (b ≡ true → Finds P s r) → Finds P s (require b r)
  finds-require true r f = f refl
  finds-require false r f = zero-le

  finds-cond : (b : Bool) (r r' : Read A) → (b ≡ true → Finds P s r) → (b ≡ false → Finds P s r') → Finds P s (cond b r r')
  finds-cond true r r' f g = f refl
  finds-cond false r r' f g = g refl

  -- a part that is not empty
  finds-start : (r : Read A) → (1 ≤ length s → Finds P s r) → Finds P s (cond (eqb (length s) 0) (fault 0) r)
  finds-start r f = finds-cond (eqb (length s) 0) (fault 0) r (λ _. zero-le) (λ e. f (omega (arith, eqb-false (length s) 0 e)))

  -- a part of kind k, or of another kind
  finds-kind : (k : ℕ) (r r' : Read A) → (kind_of s ≡ k → Finds P s r) → Finds P s r' → Finds P s (cond (eqb (kind_of s) k) r r')
  finds-kind k r r' f g = finds-cond (eqb (kind_of s) k) r r' (λ e. f (eqb-true (kind_of s) k e)) (λ _. g)

  -- a first byte with n 0
  finds-low : (r : Read A) → (low_of s ≡ 0 → Finds P s r) → Finds P s (require (low_zero s) r)
  finds-low r f = finds-require (low_zero s) r (λ e. f (eqb-true (low_of s) 0 e))

-- behind a head that is known, what is read there, and then what is made of both
module _ {A B : Type 0} (F : A → Type 0) (write : A → List ℕ) (P : B → ℕ → Type 0) (s : List ℕ) where
  finds-and_then : (at : ℕ) (head : List ℕ) (r : Read A) (k : A → ℕ → Read B) → Part s at head → Reads F write (drop at s) r
      → ((a : A) (n : ℕ) → F a → Part s (at + n) (head ++ write a) → Finds P s (k a (at + n)))
      → Finds P s (and_then at r k)
  finds-and_then at head (got a n) k p h f = f a n h.0 (part-append s at n head (write a) p h.1)
  finds-and_then at head (fault q) k p h f = omega (arith, length-drop at s)

-- ---- slots and patterns

pub term_sound-formed : (a : ℕ) → term_sound a ≡ true → TermFormed a
term_sound-formed a e =
    (ltb-true 0 a (and_left (ltb 0 a) (ltb a 1048576) e), ltb-true a 1048576 (and_right (ltb 0 a) (ltb a 1048576) e))

pub slot_sound-range : (x : ℕ) → slot_sound x ≡ true → (0 < x) × (x < 1048592)
slot_sound-range x e = go (term_sound x) refl
  where
    go : (b : Bool) → term_sound x ≡ b → (0 < x) × (x < 1048592)
    go true f = let h = term_sound-formed x f in omega arith
    go false f =
        let h = or_right (term_sound x) (leb 1048576 x && ltb x 1048592) e f in
        let low = leb-true 1048576 x (and_left (leb 1048576 x) (ltb x 1048592) h) in
        let high = ltb-true x 1048592 (and_right (leb 1048576 x) (ltb x 1048592) h) in
        omega arith

-- a sound number is a formed slot's
pub slot_of-sound : (x : ℕ) → slot_sound x ≡ true → SlotFormed (slot_of x) × (slot_number (slot_of x) ≡ x)
slot_of-sound x e = go (ltb x 1048576) refl
  where
    go : (b : Bool) → ltb x 1048576 ≡ b → let y : Slot = cond b (a_term x) (a_variable (x - 1048576)) in SlotFormed y × (slot_number y ≡ x)
    go true f = (((slot_sound-range x e).0, ltb-true x 1048576 f), refl)
    go false f =
        let h = slot_sound-range x e in
        let g = ltb-false x 1048576 f in
        (omega arith, omega arith)

-- what is read as a pattern
pub read_pattern-sound : (s : List ℕ) → Reads PatternFormed pattern_bytes s (read_pattern s)
unfolding read_pattern pattern_bytes
read_pattern-sound s =
    finds-require (Found PatternFormed pattern_bytes s) s _ _
    λ e.
    let long = leb 9 (length s) in
    let x = bits24 s 0 in
    let y = bits24 s 3 in
    let z = bits24 s 6 in
    let e2 = and_left (long && slot_sound x && slot_sound y) (slot_sound z) e in
    let e1 = and_left (long && slot_sound x) (slot_sound y) e2 in
    let l = leb-true 9 (length s) (and_left long (slot_sound x) e1) in
    let hx = slot_of-sound x (and_right long (slot_sound x) e1) in
    let hy = slot_of-sound y (and_right (long && slot_sound x) (slot_sound y) e2) in
    let hz = slot_of-sound z (and_right (long && slot_sound x && slot_sound y) (slot_sound z) e) in
    let pz : Part (drop 3 (drop 3 s)) 3 (three_bytes z) = rw (drop-drop 3 3 s) (part-three_bytes s 6 (omega arith)) in
    let py = part-append (drop 3 s) 3 3 (three_bytes y) (three_bytes z) (part-three_bytes s 3 (omega arith)) pz in
    let px = part-append s 3 6 (three_bytes x) (three_bytes y ++ three_bytes z) (part-three_bytes s 0 (omega arith)) py in
    ((hx.0, hy.0, hz.0), rw (hx.1, hy.1, hz.1) px)

-- as many patterns as asked for, each well-formed
abbrev pub PatternsFormed : ℕ → List Pattern → Type 0
PatternsFormed m ps = (length ps ≡ m) × Every PatternFormed ps

-- what is read as patterns
pub read_patterns-sound : (m : ℕ) (s : List ℕ) → Reads (PatternsFormed m) (concat_map pattern_bytes) s (read_patterns m s)
unfolding read_patterns
read_patterns-sound zero s = ((refl, tt), part_none s)
read_patterns-sound (suc m) s =
    finds-and_then PatternFormed pattern_bytes (Found (PatternsFormed (suc m)) (concat_map pattern_bytes) s) s 0 [] (read_pattern s) _
    (part_none s) (read_pattern-sound s)
    λ p n hp part.
    finds-and_then (PatternsFormed m) (concat_map pattern_bytes) _ s (0 + n) (pattern_bytes p) (read_patterns m (drop (0 + n) s)) _
    part (read_patterns-sound m (drop (0 + n) s))
    λ ps i hps parts. ((ap suc hps.0, (hp, hps.1)), parts)

-- ---- operands behind a head

module _ {A : Type 0} (F : A → Type 0) (write : A → List ℕ) (again : List ℕ → Read A)
    (sound : (t : List ℕ) → Reads F write t (again t)) (s : List ℕ) (at : ℕ) (head : List ℕ) (part : Part s at head) where
  -- one operand
  one_part-sound : (f : A → A) → ((x : A) → F x → F (f x) × (write (f x) ≡ head ++ write x))
      → Reads F write s (and_then at (again (drop at s)) (λ x next. got (f x) next))
  one_part-sound f g =
      finds-and_then F write (Found F write s) s at head (again (drop at s)) _ part (sound (drop at s))
      λ x n hx p. ((g x hx).0, rw (g x hx).1 p)

  -- two operands, one behind the other
  two_parts-sound : (f : A → A → A) → ((x y : A) → F x → F y → F (f x y) × (write (f x y) ≡ (head ++ write x) ++ write y))
      → Reads F write s
      (and_then at (again (drop at s)) (λ x mid. and_then mid (again (drop mid s)) (λ y next. got (f x y) next)))
  two_parts-sound f g =
      finds-and_then F write (Found F write s) s at head (again (drop at s)) _ part (sound (drop at s))
      λ x n hx p.
      finds-and_then F write (Found F write s) s (at + n) (head ++ write x) (again (drop (at + n) s)) _ p (sound (drop (at + n) s))
      λ y m hy q. ((g x y hx hy).0, rw (g x y hx hy).1 q)

-- the head is a first byte of kind k with n 0
module _ {A : Type 0} (F : A → Type 0) (write : A → List ℕ) (again : List ℕ → Read A)
    (sound : (t : List ℕ) → Reads F write t (again t)) (s : List ℕ) (ne : 1 ≤ length s) (k : ℕ) where
  one_operand-sound : (f : A → A) → ((x : A) → F x → F (f x) × (write (f x) ≡ first_byte k 0 ∷ write x)) → kind_of s ≡ k
      → Reads F write s (require (low_zero s) (and_then 1 (again (drop 1 s)) (λ x next. got (f x) next)))
  one_operand-sound f g e =
      finds-low (Found F write s) s _
      λ z. one_part-sound F write again sound s 1 (first_byte k 0 ∷ []) (part-first_byte s k 0 ne e z) f g

  two_operands-sound : (f : A → A → A)
      → ((x y : A) → F x → F y → F (f x y) × (write (f x y) ≡ first_byte k 0 ∷ (write x ++ write y)))
      → kind_of s ≡ k
      → Reads F write s
      (require (low_zero s)
      (and_then 1 (again (drop 1 s)) (λ x mid. and_then mid (again (drop mid s)) (λ y next. got (f x y) next))))
  two_operands-sound f g e =
      finds-low (Found F write s) s _
      λ z. two_parts-sound F write again sound s 1 (first_byte k 0 ∷ []) (part-first_byte s k 0 ne e z) f g

-- n of a first byte is in the range of a variable
low_of-small : (s : List ℕ) → low_of s < 16
low_of-small s = omega arith

-- ---- conditions

abbrev pub FoundCondition : List ℕ → Condition → ℕ → Type 0
FoundCondition s = Found ConditionFormed condition_bytes s

abbrev pub ReadsCondition : List ℕ → Read Condition → Type 0
ReadsCondition s r = Reads ConditionFormed condition_bytes s r

module _ (again : List ℕ → Read Condition) (sound : (t : List ℕ) → ReadsCondition t (again t)) (s : List ℕ) (ne : 1 ≤ length s) where
  -- the conditions on two variables
  two_variables-sound : (f : ℕ → ℕ → Condition) (k : ℕ)
      → ((v w : ℕ) → v < 16 → w < 16 → ConditionFormed (f v w) × (condition_bytes (f v w) ≡ first_byte k v ∷ w ∷ []))
      → kind_of s ≡ k → ReadsCondition s (two_variables s f)
  two_variables-sound f k g e =
      finds-require (FoundCondition s) s _ _
      λ t.
      let v = low_of s in
      let w = get_or s 1 0 in
      let l = leb-true 2 (length s) (and_left (leb 2 (length s)) (ltb w 16) t) in
      let h = g v w (low_of-small s) (ltb-true w 16 (and_right (leb 2 (length s)) (ltb w 16) t)) in
      let p = part-append s 1 1 (first_byte k v ∷ []) (w ∷ []) (part-first_byte s k v ne e refl) (part-byte s 1 l) in
      (h.0, rw h.1 p)

  variable_term-sound : kind_of s ≡ 2 → ReadsCondition s (variable_term s)
  unfolding condition_bytes
  variable_term-sound e =
      finds-require (FoundCondition s) s _ _
      λ t.
      let v = low_of s in
      let a = bits24 s 1 in
      let l = leb-true 4 (length s) (and_left (leb 4 (length s)) (term_sound a) t) in
      let p = part-append s 1 3 (first_byte 2 v ∷ []) (three_bytes a) (part-first_byte s 2 v ne e refl) (part-three_bytes s 1 l) in
      ((low_of-small s, term_sound-formed a (and_right (leb 4 (length s)) (term_sound a) t)), p)

  always-sound : kind_of s ≡ 7 → ReadsCondition s (require (low_zero s) (got always 1))
  unfolding condition_bytes
  always-sound e = finds-low (FoundCondition s) s _ (λ z. (tt, part-first_byte s 7 0 ne e z))

-- one step, where the reader of the operands is sound
condition_step-sound : (again : List ℕ → Read Condition) → ((t : List ℕ) → ReadsCondition t (again t)) → (s : List ℕ)
    → ReadsCondition s (condition_step again s)
unfolding condition_step condition_bytes
condition_step-sound again sound s =
    finds-start (FoundCondition s) s _
    λ ne.
    finds-kind (FoundCondition s) s 0 _ _ (λ e. (low_of-small s, part-first_byte s 0 (low_of s) ne e refl))
    (finds-kind (FoundCondition s) s 1 _ _ (two_variables-sound again sound s ne same 1 (λ v w p q. ((p, q), refl)))
    (finds-kind (FoundCondition s) s 2 _ _ (variable_term-sound again sound s ne)
    (finds-kind (FoundCondition s) s 3 _ _ (two_variables-sound again sound s ne less 3 (λ v w p q. ((p, q), refl)))
    (finds-kind (FoundCondition s) s 4 _ _
    (one_operand-sound ConditionFormed condition_bytes again sound s ne 4 negation (λ c p. (p, refl)))
    (finds-kind (FoundCondition s) s 5 _ _
    (two_operands-sound ConditionFormed condition_bytes again sound s ne 5 conjunction (λ c d p q. ((p, q), refl)))
    (finds-kind (FoundCondition s) s 6 _ _
    (two_operands-sound ConditionFormed condition_bytes again sound s ne 6 disjunction (λ c d p q. ((p, q), refl)))
    (finds-kind (FoundCondition s) s 7 _ _ (always-sound again sound s ne) zero-le)))))))

-- what is read as a condition
pub read_condition_in-sound : (k : ℕ) (s : List ℕ) → ReadsCondition s (read_condition_in k s)
unfolding read_condition_in
read_condition_in-sound zero s = zero-le
read_condition_in-sound (suc k) s = condition_step-sound (read_condition_in k) (read_condition_in-sound k) s

pub read_condition-sound : (s : List ℕ) → ReadsCondition s (read_condition s)
unfolding read_condition
read_condition-sound s = read_condition_in-sound (length s) s

-- ---- nodes

abbrev pub FoundNode : List ℕ → Node → ℕ → Type 0
FoundNode s = Found NodeFormed node_bytes s

abbrev pub ReadsNode : List ℕ → Read Node → Type 0
ReadsNode s r = Reads NodeFormed node_bytes s r

module _ (again : List ℕ → Read Node) (sound : (t : List ℕ) → ReadsNode t (again t)) (s : List ℕ) (ne : 1 ≤ length s) where
  n_patterns-sound : kind_of s ≡ 0 → ReadsNode s (n_patterns s)
  unfolding node_bytes
  n_patterns-sound e =
      finds-and_then (PatternsFormed (low_of s)) (concat_map pattern_bytes) (FoundNode s) s 1
      (first_byte 0 (low_of s) ∷ []) (read_patterns (low_of s) (drop 1 s)) _
      (part-first_byte s 0 (low_of s) ne e refl)
      (read_patterns-sound (low_of s) (drop 1 s))
      λ ps n h p. ((rw h.0 (low_of-small s), h.1), rw h.0 p)

  -- a first byte with n 0, a condition, and what is read behind it
  after_condition-sound : (k : ℕ) (next : Condition → ℕ → Read Node)
      → ((c : Condition) (at : ℕ) → ConditionFormed c → Part s at (first_byte k 0 ∷ condition_bytes c) → ReadsNode s (next c at))
      → kind_of s ≡ k → ReadsNode s (require (low_zero s) (after_condition s next))
  after_condition-sound k next g e =
      finds-low (FoundNode s) s _
      λ z.
      finds-and_then ConditionFormed condition_bytes (FoundNode s) s 1 (first_byte k 0 ∷ [])
      (read_condition (drop 1 s)) next (part-first_byte s k 0 ne e z) (read_condition-sound (drop 1 s))
      λ c n. g c (1 + n)

  left_join-sound : kind_of s ≡ 2 → ReadsNode s (require (low_zero s) (after_condition s (λ c at. two_nodes again s at (left_join c))))
  unfolding node_bytes
  left_join-sound =
      after_condition-sound 2 _
      λ c at h p.
      two_parts-sound NodeFormed node_bytes again sound s at (first_byte 2 0 ∷ condition_bytes c) p (left_join c)
      λ x y hx hy.
      ((h, hx, hy), ap (λ (r : List ℕ). first_byte 2 0 ∷ r) (sym (append_assoc (condition_bytes c) (node_bytes x) (node_bytes y))))

  filter-sound : kind_of s ≡ 4 → ReadsNode s (require (low_zero s) (after_condition s (λ c at. one_node again s at (filter c))))
  unfolding node_bytes
  filter-sound =
      after_condition-sound 4 _
      λ c at h p.
      one_part-sound NodeFormed node_bytes again sound s at (first_byte 4 0 ∷ condition_bytes c) p (filter c) (λ x hx. ((h, hx), refl))

  project_trust-sound : kind_of s ≡ 5 → ReadsNode s (one_node again s 1 (project_trust (low_of s)))
  unfolding node_bytes
  project_trust-sound e =
      one_part-sound NodeFormed node_bytes again sound s 1 (first_byte 5 (low_of s) ∷ []) (part-first_byte s 5 (low_of s) ne e refl)
      (project_trust (low_of s)) (λ x hx. ((low_of-small s, hx), refl))

  bounded_node-sound : kind_of s ≡ 6 → ReadsNode s (require (low_zero s) (bounded_node again s))
  unfolding node_bytes
  bounded_node-sound e =
      finds-low (FoundNode s) s _
      λ z.
      finds-require (FoundNode s) s _ _
      λ t.
      let bounds = bits24 s 1 in
      let long = leb 4 (length s) in
      let low = leb (bounds / 4096) 2000 in
      let high = leb (bounds % 4096) 2000 in
      let first = and_left (long && low) high t in
      let l = leb-true 4 (length s) (and_left long low first) in
      let lower = leb-true (bounds / 4096) 2000 (and_right long low first) in
      let upper = leb-true (bounds % 4096) 2000 (and_right (long && low) high t) in
      let back : 4096 * (bounds / 4096) + bounds % 4096 ≡ bounds = omega arith in
      let start = part-first_byte s 6 0 ne e z in
      let p = part-append s 1 3 (first_byte 6 0 ∷ []) (three_bytes bounds) start (part-three_bytes s 1 l) in
      one_part-sound NodeFormed node_bytes again sound s 4 (first_byte 6 0 ∷ three_bytes bounds) p
      (ensure_trust (bounds / 4096) (bounds % 4096))
      (λ x hx. ((lower, upper, hx), rw back))

-- one step, where the reader of the operands is sound
node_step-sound : (again : List ℕ → Read Node) → ((t : List ℕ) → ReadsNode t (again t)) → (s : List ℕ)
    → ReadsNode s (node_step again s)
unfolding node_step node_bytes
node_step-sound again sound s =
    finds-start (FoundNode s) s _
    λ ne.
    finds-kind (FoundNode s) s 0 _ _ (n_patterns-sound again sound s ne)
    (finds-kind (FoundNode s) s 1 _ _ (two_operands-sound NodeFormed node_bytes again sound s ne 1 join (λ x y p q. ((p, q), refl)))
    (finds-kind (FoundNode s) s 2 _ _ (left_join-sound again sound s ne)
    (finds-kind (FoundNode s) s 3 _ _ (two_operands-sound NodeFormed node_bytes again sound s ne 3 union (λ x y p q. ((p, q), refl)))
    (finds-kind (FoundNode s) s 4 _ _ (filter-sound again sound s ne)
    (finds-kind (FoundNode s) s 5 _ _ (project_trust-sound again sound s ne)
    (finds-kind (FoundNode s) s 6 _ _ (bounded_node-sound again sound s ne) zero-le))))))

-- what is read as a node
pub read_node_in-sound : (k : ℕ) (s : List ℕ) → ReadsNode s (read_node_in k s)
unfolding read_node_in
read_node_in-sound zero s = zero-le
read_node_in-sound (suc k) s = node_step-sound (read_node_in k) (read_node_in-sound k) s

pub read_node-sound : (s : List ℕ) → ReadsNode s (read_node s)
unfolding read_node
read_node-sound s = read_node_in-sound (length s) s

-- ---- queries

-- the whole of s was read as the node q
pub record Whole (s : List ℕ) (q : Node) (n : ℕ) : Type 0 where
  pub formed : NodeFormed q
  pub next : n ≡ length s
  pub size : node_size q ≡ length s
  pub bytes : Bytes s → s ≡ node_bytes q

abbrev pub ReadsQuery : List ℕ → Read Node → Type 0
ReadsQuery s r = Finds (Whole s) s r

-- a query of bytes without a fault is its node's bytes, and a fault is at a place of the query or at its end
pub read_query-sound : (s : List ℕ) → ReadsQuery s (read_query s)
unfolding read_query
read_query-sound s =
    finds-and_then NodeFormed node_bytes (Whole s) s 0 [] (read_node s) (whole_query s) (part_none s) (read_node-sound s)
    λ q n h p.
    finds-cond (Whole s) s (eqb (0 + n) (length s)) _ _ (λ e. whole q (0 + n) h p (eqb-true (0 + n) (length s) e)) (λ _. p.inside)
  where
    whole : (q : Node) (n : ℕ) → NodeFormed q → Part s n (node_bytes q) → n ≡ length s → Whole s q n
    whole q n h p e = record {
      formed = h;
      next = e;
      size = omega arith;
      bytes = λ b. sym (take_all n s (omega arith)) ∙ p.bytes b;
    }
