-- The bytes of a query (document 01, "Query bytes"): what patterns, conditions and nodes are written as, in prefix order.
-- Meant for trees whose numbers are in range, which are all that a reader gives. Reading is in Reading. Assumes nothing.
use Rattle.std.specs.Prelude.{List, [], ◌∷◌, ◌++◌, ℕ, ◌+◌, ◌*◌, ◌/◌, ◌%◌, length}
use Rattle.tsparql.specs.Lists.{concat_map}
use Rattle.tsparql.specs.Query.{Slot, a_term, a_variable, Pattern}
use Rattle.tsparql.specs.Query.{Condition, bound, same, is_term, less, negation, conjunction, disjunction, always}
use Rattle.tsparql.specs.Query.{Node, pattern_set, join, left_join, union, filter, project_trust, ensure_trust}

-- the first byte of a node or a condition: a kind in the high 4 bits and n in the low 4
abbrev pub first_byte : ℕ → ℕ → ℕ
first_byte kind n = 16 * kind + n

-- 24 bits as three bytes, most significant first
abbrev pub three_bytes : ℕ → List ℕ
three_bytes x = x / 65536 ∷ x / 256 % 256 ∷ x % 256 ∷ []

-- a slot's 24 bits: 4 of kind, 0 term or 1 variable, and 20 of value
abbrev pub slot_number : Slot → ℕ
slot_number (a_term a) = a
slot_number (a_variable v) = 1048576 + v

unfoldable pub pattern_bytes : Pattern → List ℕ
pattern_bytes p =
    three_bytes (slot_number p.subject)
    ++ (three_bytes (slot_number p.predicate) ++ three_bytes (slot_number p.object))

unfoldable pub condition_bytes : Condition → List ℕ
condition_bytes (bound v) = first_byte 0 v ∷ []
condition_bytes (same v w) = first_byte 1 v ∷ w ∷ []
condition_bytes (is_term v a) = first_byte 2 v ∷ three_bytes a
condition_bytes (less v w) = first_byte 3 v ∷ w ∷ []
condition_bytes (negation c) = first_byte 4 0 ∷ condition_bytes c
condition_bytes (conjunction c d) = first_byte 5 0 ∷ (condition_bytes c ++ condition_bytes d)
condition_bytes (disjunction c d) = first_byte 6 0 ∷ (condition_bytes c ++ condition_bytes d)
condition_bytes always = first_byte 7 0 ∷ []

-- the bounds of ensure trust are 12 bits each
unfoldable pub node_bytes : Node → List ℕ
node_bytes (pattern_set ps) = first_byte 0 (length ps) ∷ concat_map pattern_bytes ps
node_bytes (join x y) = first_byte 1 0 ∷ (node_bytes x ++ node_bytes y)
node_bytes (left_join c x y) = first_byte 2 0 ∷ (condition_bytes c ++ (node_bytes x ++ node_bytes y))
node_bytes (union x y) = first_byte 3 0 ∷ (node_bytes x ++ node_bytes y)
node_bytes (filter c x) = first_byte 4 0 ∷ (condition_bytes c ++ node_bytes x)
node_bytes (project_trust v x) = first_byte 5 v ∷ node_bytes x
node_bytes (ensure_trust l u x) = first_byte 6 0 ∷ (three_bytes (4096 * l + u) ++ node_bytes x)

-- how many bytes a condition and a node are written as
abbrev pub condition_size : Condition → ℕ
condition_size c = length (condition_bytes c)

abbrev pub node_size : Node → ℕ
node_size q = length (node_bytes q)
