-- The readers of a query (document 01, "Query bytes", and refusal 6 of "Check"). A reader is given a part of the query, which
-- starts at a pattern, a condition or a node. It finds this and the next place, behind its last operand, or else where the first fault in
-- prefix order is. Both places are counted from the part's start. Every fault of the part's own bytes is at its start; a fault
-- of an operand is at the operand's own place. A missing operand is an empty part. Assumes nothing.
use Rattle.std.specs.Prelude.{Bool, true, false, ◌&&◌, ◌||◌, cond, List, [], ◌∷◌, ℕ, zero, suc, ◌+◌, ◌-◌, ◌*◌, ◌/◌, ◌%◌, eqb, leb, ltb, length, get_or, drop}
use Rattle.tsparql.specs.Query.{Slot, a_term, a_variable, Pattern}
use Rattle.tsparql.specs.Query.{Condition, bound, same, is_term, less, negation, conjunction, disjunction, always}
use Rattle.tsparql.specs.Query.{Node, pattern_set, join, left_join, union, filter, project_trust, ensure_trust}

-- what was found: a value with the next place, or the place of the fault
pub data Read (A : Type 0) : Type 0 where
  got : A → ℕ → Read A
  fault : ℕ → Read A

-- go on behind what was found in the part at a place
abbrev pub and_then : {A B : Type 0} → ℕ → Read A → (A → ℕ → Read B) → Read B
and_then at (got a n) k = k a (at + n)
and_then at (fault p) k = fault (at + p)

-- go on where the test passes, else a fault at the part's start
abbrev pub require : {A : Type 0} → Bool → Read A → Read A
require true r = r
require false r = fault 0

-- ---- bytes of a part

-- kind and n of the first byte
abbrev pub kind_of : List ℕ → ℕ
kind_of s = get_or s 0 0 / 16

abbrev pub low_of : List ℕ → ℕ
low_of s = get_or s 0 0 % 16

-- n is 0, as it must be where it is not named
abbrev pub low_zero : List ℕ → Bool
low_zero s = eqb (low_of s) 0

-- 24 bits at a place
abbrev pub bits24 : List ℕ → ℕ → ℕ
bits24 s i = (get_or s i 0 * 256 + get_or s (i + 1) 0) * 256 + get_or s (i + 2) 0

-- ---- patterns

-- 4 zero bits and a term, from 1 to 1,048,575
abbrev pub term_sound : ℕ → Bool
term_sound x = ltb 0 x && ltb x 1048576

-- kind 0 and a term, or kind 1 and a variable, from 0 to 15
abbrev pub slot_sound : ℕ → Bool
slot_sound x = term_sound x || (leb 1048576 x && ltb x 1048592)

-- the slot of a number: a term below 1,048,576, else a variable
abbrev pub slot_of : ℕ → Slot
slot_of x = cond (ltb x 1048576) (a_term x) (a_variable (x - 1048576))

-- the pattern of the first 9 bytes
abbrev pub pattern_at : List ℕ → Pattern
pattern_at s = record { subject = slot_of (bits24 s 0); predicate = slot_of (bits24 s 3); object = slot_of (bits24 s 6) }

unfoldable pub read_pattern : List ℕ → Read Pattern
read_pattern s =
    require (leb 9 (length s) && slot_sound (bits24 s 0) && slot_sound (bits24 s 3) && slot_sound (bits24 s 6)) (got (pattern_at s) 9)

-- as many patterns as the first argument says
unfoldable pub read_patterns : ℕ → List ℕ → Read (List Pattern)
read_patterns zero s = got [] 0
read_patterns (suc n) s =
    and_then 0 (read_pattern s) (λ p at. and_then at (read_patterns n (drop at s)) (λ ps next. got (p ∷ ps) next))

-- ---- conditions

-- n is a variable, and a second one follows behind 4 zero bits
abbrev pub two_variables : List ℕ → (ℕ → ℕ → Condition) → Read Condition
two_variables s f = require (leb 2 (length s) && ltb (get_or s 1 0) 16) (got (f (low_of s) (get_or s 1 0)) 2)

-- n is a variable, and a term follows
abbrev pub variable_term : List ℕ → Read Condition
variable_term s = require (leb 4 (length s) && term_sound (bits24 s 1)) (got (is_term (low_of s) (bits24 s 1)) 4)

-- with `again` for the conditions in a condition
module _ (again : List ℕ → Read Condition) (s : List ℕ) where
  abbrev pub one_condition : (Condition → Condition) → Read Condition
  one_condition f = require (low_zero s) (and_then 1 (again (drop 1 s)) (λ c next. got (f c) next))

  abbrev pub two_conditions : (Condition → Condition → Condition) → Read Condition
  two_conditions f =
      require (low_zero s)
      (and_then 1 (again (drop 1 s)) (λ c at. and_then at (again (drop at s)) (λ d next. got (f c d) next)))

  -- the condition of a part, by its kind
  unfoldable pub condition_step : Read Condition
  condition_step =
      cond (eqb (length s) 0) (fault 0)
      (cond (eqb (kind_of s) 0) (got (bound (low_of s)) 1)
      (cond (eqb (kind_of s) 1) (two_variables s same)
      (cond (eqb (kind_of s) 2) (variable_term s)
      (cond (eqb (kind_of s) 3) (two_variables s less)
      (cond (eqb (kind_of s) 4) (one_condition negation)
      (cond (eqb (kind_of s) 5) (two_conditions conjunction)
      (cond (eqb (kind_of s) 6) (two_conditions disjunction)
      (cond (eqb (kind_of s) 7) (require (low_zero s) (got always 1))
      (fault 0)))))))))

-- the first argument bounds how deep conditions nest
unfoldable pub read_condition_in : ℕ → List ℕ → Read Condition
read_condition_in zero s = fault 0
read_condition_in (suc k) s = condition_step (read_condition_in k) s

-- a part has no more levels than bytes (the law `read_condition-step` says it without the bound)
unfoldable pub read_condition : List ℕ → Read Condition
read_condition s = read_condition_in (length s) s

-- ---- nodes

-- n patterns
abbrev pub n_patterns : List ℕ → Read Node
n_patterns s = and_then 1 (read_patterns (low_of s) (drop 1 s)) (λ ps next. got (pattern_set ps) next)

-- a condition, and then nodes behind it
abbrev pub after_condition : List ℕ → (Condition → ℕ → Read Node) → Read Node
after_condition s k = and_then 1 (read_condition (drop 1 s)) k

-- with `again` for the nodes in a node
module _ (again : List ℕ → Read Node) (s : List ℕ) where
  -- one node from a place on
  abbrev pub one_node : ℕ → (Node → Node) → Read Node
  one_node at f = and_then at (again (drop at s)) (λ x next. got (f x) next)

  -- two nodes from a place on
  abbrev pub two_nodes : ℕ → (Node → Node → Node) → Read Node
  two_nodes at f =
      and_then at (again (drop at s)) (λ x mid. and_then mid (again (drop mid s)) (λ y next. got (f x y) next))

  -- two bounds of 12 bits, each 0 to 2000, and one node
  abbrev pub bounded_node : Read Node
  bounded_node =
      require (leb 4 (length s) && leb (bits24 s 1 / 4096) 2000 && leb (bits24 s 1 % 4096) 2000)
      (one_node 4 (ensure_trust (bits24 s 1 / 4096) (bits24 s 1 % 4096)))

  -- the node of a part, by its kind
  unfoldable pub node_step : Read Node
  node_step =
      cond (eqb (length s) 0) (fault 0)
      (cond (eqb (kind_of s) 0) (n_patterns s)
      (cond (eqb (kind_of s) 1) (require (low_zero s) (two_nodes 1 join))
      (cond (eqb (kind_of s) 2) (require (low_zero s) (after_condition s (λ c at. two_nodes at (left_join c))))
      (cond (eqb (kind_of s) 3) (require (low_zero s) (two_nodes 1 union))
      (cond (eqb (kind_of s) 4) (require (low_zero s) (after_condition s (λ c at. one_node at (filter c))))
      (cond (eqb (kind_of s) 5) (one_node 1 (project_trust (low_of s)))
      (cond (eqb (kind_of s) 6) (require (low_zero s) bounded_node)
      (fault 0))))))))

-- the first argument bounds how deep nodes nest
unfoldable pub read_node_in : ℕ → List ℕ → Read Node
read_node_in zero s = fault 0
read_node_in (suc k) s = node_step (read_node_in k) s

-- a part has no more levels than bytes (the law `read_node-step` says it without the bound)
unfoldable pub read_node : List ℕ → Read Node
read_node s = read_node_in (length s) s

-- ---- a query: one node, and nothing after it

-- surplus bytes are a fault at the first of them
abbrev pub whole_query : List ℕ → Node → ℕ → Read Node
whole_query s q next = cond (eqb next (length s)) (got q next) (fault next)

-- one node, and nothing behind it
unfoldable pub read_query : List ℕ → Read Node
read_query s = and_then 0 (read_node s) (whole_query s)

-- the node of a query that has no fault; the empty set stands in where there is one, and no call uses it
abbrev pub found_node : Read Node → Node
found_node (got q n) = q
found_node (fault p) = pattern_set []

unfoldable pub query_node : List ℕ → Node
query_node s = found_node (read_query s)
