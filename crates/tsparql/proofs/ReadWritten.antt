-- What is written of a well-formed tree is read back as that tree, whatever bytes stand behind it (specs/Writing.antt,
-- specs/Reading.antt); for a query nothing may stand behind it.
-- Groups: numbers back from their bytes; slots and patterns; operands behind a head; conditions; nodes; queries.
-- Assumes nothing.
use mathlib.Core.Path.{◌≡◌, refl, sym, ap, ◌∙◌}
use mathlib.Core.Bool.{true}
use mathlib.Core.List.{List, [], ◌∷◌, ◌++◌, append_assoc, append-nil}
use Prim.Native.Nat.{ℕ, suc, ◌+◌, ◌-◌, ◌*◌, ◌/◌, ◌%◌, ◌<◌}
use native.Mathlib.Nat.{zero-add}
use native.Mathlib.Omega.{arith}
use borrow.Author.Tests.{le-leb, lt-ltb, le-ltb, eq-eqb}
use lib.Dec.{eqb-suc-zero}
use lib.ListN.{length, drop, length-append}
use lib.Seq.{drop_at}
use Rattle.tsparql.specs.Lists.{Every, concat_map}
use Rattle.tsparql.specs.Query.{Slot, a_term, a_variable, Pattern}
use Rattle.tsparql.specs.Query.{Condition, bound, same, is_term, less, negation, conjunction, disjunction, always}
use Rattle.tsparql.specs.Query.{Node, pattern_set, join, left_join, union, filter, project_trust, ensure_trust}
use Rattle.tsparql.specs.Writing.{first_byte, three_bytes, slot_number, pattern_bytes, condition_bytes, node_bytes, condition_size, node_size}
use Rattle.tsparql.specs.Reading.{Read, got, and_then, bits24, term_sound, slot_sound, slot_of, read_pattern, read_patterns}
use Rattle.tsparql.specs.Reading.{two_variables, condition_step, read_condition}
use Rattle.tsparql.specs.Reading.{after_condition, node_step, read_node, read_query}
use Rattle.tsparql.proofs.ReaderSteps.{read_condition-step, read_node-step}
use Rattle.tsparql.specs.WellFormed.{TermFormed, SlotFormed, PatternFormed, ConditionFormed, NodeFormed}

-- ---- numbers back from their bytes

first_byte-kind : (k n : ℕ) → n < 16 → first_byte k n / 16 ≡ k
first_byte-kind k n h = omega arith

first_byte-low : (k n : ℕ) → n < 16 → first_byte k n % 16 ≡ n
first_byte-low k n h = omega arith

bits24-three_bytes : (x : ℕ) → x < 16777216 → bits24 (three_bytes x) 0 ≡ x
bits24-three_bytes x h = omega arith

-- ---- slots and patterns

formed-term_sound : (a : ℕ) → TermFormed a → term_sound a ≡ true
formed-term_sound a h = rw (lt-ltb 0 a h.0, lt-ltb a 1048576 h.1)

bits24-slot_number : (s : Slot) → SlotFormed s → bits24 (three_bytes (slot_number s)) 0 ≡ slot_number s
bits24-slot_number (a_term a) h = bits24-three_bytes a (omega arith)
bits24-slot_number (a_variable v) h = bits24-three_bytes (1048576 + v) (omega arith)

slot_sound-slot_number : (s : Slot) → SlotFormed s → slot_sound (slot_number s) ≡ true
slot_sound-slot_number (a_term a) h = rw (formed-term_sound a h)
slot_sound-slot_number (a_variable v) h =
    let x : ℕ = 1048576 + v in
    rw (lt-ltb 0 x (omega arith), le-ltb x 1048576 (omega arith), le-leb 1048576 x (omega arith), lt-ltb x 1048592 (omega arith))

slot_of-slot_number : (s : Slot) → SlotFormed s → slot_of (slot_number s) ≡ s
slot_of-slot_number (a_term a) h = rw (lt-ltb a 1048576 h.1)
slot_of-slot_number (a_variable v) h =
    let e : (1048576 + v) - 1048576 ≡ v = omega arith in
    rw (le-ltb (1048576 + v) 1048576 (omega arith), e)

-- a pattern back from its bytes
pub read_pattern-written : (p : Pattern) → PatternFormed p → (rest : List ℕ) → read_pattern (pattern_bytes p ++ rest) ≡ got p 9
unfolding read_pattern pattern_bytes
read_pattern-written p h rest =
    rw (
      le-leb 9 (length (pattern_bytes p ++ rest)) (omega arith),
      bits24-slot_number p.subject h.0,
      bits24-slot_number p.predicate h.1,
      bits24-slot_number p.object h.2,
      slot_sound-slot_number p.subject h.0,
      slot_sound-slot_number p.predicate h.1,
      slot_sound-slot_number p.object h.2,
      slot_of-slot_number p.subject h.0,
      slot_of-slot_number p.predicate h.1,
      slot_of-slot_number p.object h.2,
    )

-- patterns back from their bytes, where their number is known
pub read_patterns-written : (ps : List Pattern) → Every PatternFormed ps → (rest : List ℕ)
    → read_patterns (length ps) (concat_map pattern_bytes ps ++ rest) ≡ got ps (length (concat_map pattern_bytes ps))
unfolding read_patterns pattern_bytes
read_patterns-written [] h rest = refl
read_patterns-written (p ∷ ps) h rest =
    rw (read_pattern-written p h.0 (concat_map pattern_bytes ps ++ rest), read_patterns-written ps h.1 rest)
    (ap (got (p ∷ ps)) (omega arith))

-- ---- operands behind a head

module _ {A : Type 0} (again : List ℕ → Read A) where
  -- a head of some bytes, and one operand behind it
  one_part-written : (f : A → A) (head xs rest : List ℕ) (at : ℕ) (x : A) → length head ≡ at
      → again (xs ++ rest) ≡ got x (length xs)
      → and_then at (again (drop at ((head ++ xs) ++ rest))) (λ y next. got (f y) next) ≡ got (f x) (length (head ++ xs))
  one_part-written f head xs rest at x e p =
      rw (append_assoc head xs rest, drop_at head (xs ++ rest) at e, p) (ap (got (f x)) (omega (arith, length-append head xs)))

  -- a head of some bytes, and two operands behind it
  two_parts-written : (f : A → A → A) (head xs ys rest : List ℕ) (at : ℕ) (x y : A) → length head ≡ at
      → again (xs ++ (ys ++ rest)) ≡ got x (length xs)
      → again (ys ++ rest) ≡ got y (length ys)
      → and_then at (again (drop at ((head ++ (xs ++ ys)) ++ rest)))
      (λ u mid. and_then mid (again (drop mid ((head ++ (xs ++ ys)) ++ rest))) (λ v next. got (f u v) next))
      ≡ got (f x y) (length (head ++ (xs ++ ys)))
  two_parts-written f head xs ys rest at x y e p q =
      rw (
        append_assoc head (xs ++ ys) rest,
        append_assoc xs ys rest,
        drop_at head (xs ++ (ys ++ rest)) at e,
        p,
        behind,
        q,
      )
      (ap (got (f x y)) (omega (arith, length-append head (xs ++ ys), length-append xs ys)))
    where
      behind : drop (at + length xs) (head ++ (xs ++ (ys ++ rest))) ≡ ys ++ rest
      behind =
          ap (drop (at + length xs)) (sym (append_assoc head xs (ys ++ rest)))
          ∙ drop_at (head ++ xs) (ys ++ rest) (at + length xs) (omega (arith, length-append head xs))

-- ---- conditions

-- the conditions on two variables, kinds 1 and 3
two_variables-written : (f : ℕ → ℕ → Condition) (k v w : ℕ) (rest : List ℕ) → v < 16 → w < 16
    → two_variables (first_byte k v ∷ w ∷ rest) f ≡ got (f v w) 2
two_variables-written f k v w rest h i =
    rw (le-leb 2 (suc (suc (length rest))) (omega arith), lt-ltb w 16 i, first_byte-low k v h)

-- a condition back from its bytes
pub read_condition-written : (c : Condition) → ConditionFormed c → (rest : List ℕ)
    → read_condition (condition_bytes c ++ rest) ≡ got c (condition_size c)
unfolding condition_step condition_bytes
read_condition-written (bound v) h rest =
    read_condition-step (condition_bytes (bound v) ++ rest)
    ∙ rw (eqb-suc-zero, first_byte-kind 0 v h, first_byte-low 0 v h)
read_condition-written (same v w) h rest =
    read_condition-step (condition_bytes (same v w) ++ rest)
    ∙ rw (eqb-suc-zero, first_byte-kind 1 v h.0) (two_variables-written same 1 v w rest h.0 h.1)
read_condition-written (is_term v a) h rest =
    read_condition-step (condition_bytes (is_term v a) ++ rest)
    ∙ rw (
      eqb-suc-zero,
      first_byte-kind 2 v h.0,
      le-leb 4 (length (condition_bytes (is_term v a) ++ rest)) (omega arith),
      bits24-three_bytes a (omega (arith, h.1.1)),
      formed-term_sound a h.1,
      first_byte-low 2 v h.0,
    )
read_condition-written (less v w) h rest =
    read_condition-step (condition_bytes (less v w) ++ rest)
    ∙ rw (eqb-suc-zero, first_byte-kind 3 v h.0) (two_variables-written less 3 v w rest h.0 h.1)
read_condition-written (negation c) h rest =
    read_condition-step (condition_bytes (negation c) ++ rest)
    ∙ rw eqb-suc-zero
    (one_part-written read_condition negation (first_byte 4 0 ∷ []) (condition_bytes c) rest 1 c refl (read_condition-written c h rest))
read_condition-written (conjunction c d) h rest =
    read_condition-step (condition_bytes (conjunction c d) ++ rest)
    ∙ rw eqb-suc-zero
    (two_parts-written read_condition conjunction (first_byte 5 0 ∷ []) (condition_bytes c) (condition_bytes d) rest 1 c d refl
    (read_condition-written c h.0 (condition_bytes d ++ rest))
    (read_condition-written d h.1 rest))
read_condition-written (disjunction c d) h rest =
    read_condition-step (condition_bytes (disjunction c d) ++ rest)
    ∙ rw eqb-suc-zero
    (two_parts-written read_condition disjunction (first_byte 6 0 ∷ []) (condition_bytes c) (condition_bytes d) rest 1 c d refl
    (read_condition-written c h.0 (condition_bytes d ++ rest))
    (read_condition-written d h.1 rest))
read_condition-written always h rest = read_condition-step (condition_bytes always ++ rest) ∙ rw eqb-suc-zero

-- ---- nodes

-- a first byte, a condition, and more bytes behind it
after_condition-written : (b : ℕ) (c : Condition) → ConditionFormed c → (more rest : List ℕ) (k : Condition → ℕ → Read Node)
    → after_condition ((b ∷ (condition_bytes c ++ more)) ++ rest) k ≡ k c (1 + condition_size c)
after_condition-written b c h more rest k =
    rw (append_assoc (condition_bytes c) more rest, read_condition-written c h (more ++ rest))

-- a node back from its bytes
pub read_node-written : (q : Node) → NodeFormed q → (rest : List ℕ) → read_node (node_bytes q ++ rest) ≡ got q (node_size q)
unfolding node_step node_bytes
read_node-written (pattern_set ps) h rest =
    read_node-step (node_bytes (pattern_set ps) ++ rest)
    ∙ rw (
      eqb-suc-zero,
      first_byte-kind 0 (length ps) h.0,
      first_byte-low 0 (length ps) h.0,
      read_patterns-written ps h.1 rest,
    )
    (ap (got (pattern_set ps)) (omega arith))
read_node-written (join x y) h rest =
    read_node-step (node_bytes (join x y) ++ rest)
    ∙ rw eqb-suc-zero
    (two_parts-written read_node join (first_byte 1 0 ∷ []) (node_bytes x) (node_bytes y) rest 1 x y refl
    (read_node-written x h.0 (node_bytes y ++ rest))
    (read_node-written y h.1 rest))
read_node-written (left_join c x y) h rest =
    read_node-step (node_bytes (left_join c x y) ++ rest)
    ∙ rw eqb-suc-zero
    (after_condition-written (first_byte 2 0) c h.0 (node_bytes x ++ node_bytes y) rest _
    ∙ two_parts-written read_node (left_join c) (first_byte 2 0 ∷ condition_bytes c) (node_bytes x) (node_bytes y) rest
    (1 + condition_size c) x y (omega arith)
    (read_node-written x h.1 (node_bytes y ++ rest))
    (read_node-written y h.2 rest))
read_node-written (union x y) h rest =
    read_node-step (node_bytes (union x y) ++ rest)
    ∙ rw eqb-suc-zero
    (two_parts-written read_node union (first_byte 3 0 ∷ []) (node_bytes x) (node_bytes y) rest 1 x y refl
    (read_node-written x h.0 (node_bytes y ++ rest))
    (read_node-written y h.1 rest))
read_node-written (filter c x) h rest =
    read_node-step (node_bytes (filter c x) ++ rest)
    ∙ rw eqb-suc-zero
    (after_condition-written (first_byte 4 0) c h.0 (node_bytes x) rest _
    ∙ one_part-written read_node (filter c) (first_byte 4 0 ∷ condition_bytes c) (node_bytes x) rest
    (1 + condition_size c) x (omega arith)
    (read_node-written x h.1 rest))
read_node-written (project_trust v x) h rest =
    read_node-step (node_bytes (project_trust v x) ++ rest)
    ∙ rw (eqb-suc-zero, first_byte-kind 5 v h.0, first_byte-low 5 v h.0)
    (one_part-written read_node (project_trust v) (first_byte 5 v ∷ []) (node_bytes x) rest 1 x refl (read_node-written x h.1 rest))
read_node-written (ensure_trust l u x) h rest =
    let bounds : ℕ = 4096 * l + u in
    let lower : bounds / 4096 ≡ l = omega (arith, h.1) in
    let upper : bounds % 4096 ≡ u = omega (arith, h.1) in
    read_node-step (node_bytes (ensure_trust l u x) ++ rest)
    ∙ rw (
      eqb-suc-zero,
      le-leb 4 (length (node_bytes (ensure_trust l u x) ++ rest)) (omega arith),
      bits24-three_bytes bounds (omega (arith, h.0, h.1)),
      lower,
      upper,
      le-leb l 2000 h.0,
      le-leb u 2000 h.1,
    )
    (one_part-written read_node (ensure_trust l u) (first_byte 6 0 ∷ three_bytes bounds) (node_bytes x) rest 4 x refl
    (read_node-written x h.2 rest))

-- ---- queries

-- a well-formed node, written and read as a query, is itself
pub read_query-written : (q : Node) → NodeFormed q → read_query (node_bytes q) ≡ got q (node_size q)
unfolding read_query
read_query-written q h = rw (alone, zero-add (node_size q), eq-eqb (node_size q) (node_size q) refl)
  where
    alone : read_node (node_bytes q) ≡ got q (node_size q)
    alone = ap read_node (sym (append-nil (node_bytes q))) ∙ read_node-written q h []
