-- The meaning of a derivation (request 6): the query that a group stands for. Groups: slots, bounds and conditions; what stands in a group
-- (items); joins; projections, bounds and filters; a group's node; the items of a tree. Assumes nothing.
use Rattle.std.specs.Prelude.{Bool, true, false, cond, List, [], ◌∷◌, ◌++◌, ℕ, ◌+◌, ◌-◌, eqb, length}
use Rattle.tsparql.specs.Query.{a_term, a_variable, Pattern, Condition}
use Rattle.tsparql.specs.Query.{Node, pattern_set, join, left_join, union, project_trust, ensure_trust}
use Rattle.tsparql.specs.Query as Q
use Rattle.tsparql.specs.Writing.{node_bytes}
use Rattle.grammar.specs.Grammar.{Variable, Slot, term, variable, Thousandths, plus, minus}
use Rattle.grammar.specs.Grammar.{Disjunction, conjuncts, either, Conjunction, single, both}
use Rattle.grammar.specs.Grammar.{Primary, negatable, equal, less, Negatable, bound, not, parens}
use Rattle.grammar.specs.Grammar.{Body, end, triple, triple_dot, element, element_dot, Query}
use Rattle.grammar.specs.Grammar.{Element, groups, optional, filter, trust_as, ensure, Unions, none, and_union}

-- ---- slots, bounds, conditions

abbrev pub slot_of : Slot → Q.Slot
slot_of (term t) = a_term t.number
slot_of (variable v) = a_variable v.name

abbrev pub pattern_of : Slot → Slot → Slot → Pattern
pattern_of x y z = record { subject = slot_of x; predicate = slot_of y; object = slot_of z }

-- a bound, plus 1000
abbrev pub value_of : Thousandths → ℕ
value_of (plus n h) = 1000 + n
value_of (minus n l h) = 1000 - n

-- `=` is is-term with a term on its right, same with a variable
abbrev pub equation : Variable → Slot → Condition
equation v (term t) = Q.is_term v.name t.number
equation v (variable w) = Q.same v.name w.name

-- and, or group from the left, as their rules do
unfoldable mutual
  pub disjunction_of : Disjunction → Condition
  disjunction_of (conjuncts c) = conjunction_of c
  disjunction_of (either d c) = Q.disjunction (disjunction_of d) (conjunction_of c)

  pub conjunction_of : Conjunction → Condition
  conjunction_of (single p) = primary_of p
  conjunction_of (both c p) = Q.conjunction (conjunction_of c) (primary_of p)

  pub primary_of : Primary → Condition
  primary_of (negatable n) = negatable_of n
  primary_of (equal v s) = equation v s
  primary_of (less v w) = Q.less v.name w.name

  pub negatable_of : Negatable → Condition
  negatable_of (bound v) = Q.bound v.name
  negatable_of (not n) = Q.negation (negatable_of n)
  negatable_of (parens d) = disjunction_of d

-- ---- items

-- what stands in a group, in text order: triples; groups, united by UNION; OPTIONAL with its condition; filters; TRUST AS; ENSURE TRUST
pub data Item : Type 0 where
  a_triple : Pattern → Item
  a_group : Node → Item
  an_optional : Condition → Node → Item
  a_filter : Condition → Item
  a_projection : ℕ → Item
  a_bound : ℕ → ℕ → Item

-- ---- joins

-- the empty set: what stands for nothing
abbrev pub is_empty_set : Node → Bool
is_empty_set (pattern_set []) = true
is_empty_set (pattern_set (p ∷ ps)) = false
is_empty_set (join x y) = false
is_empty_set (left_join c x y) = false
is_empty_set (union x y) = false
is_empty_set (Q.filter c x) = false
is_empty_set (project_trust v x) = false
is_empty_set (ensure_trust l u x) = false

-- a join, from which the empty set is dropped
abbrev pub joined : Node → Node → Node
joined x y = cond (is_empty_set x) y (cond (is_empty_set y) x (join x y))

-- What the items of a group join to: x is what is joined so far, run the triples of the set that is still open. A set closes at fifteen
-- triples, at a group and at an OPTIONAL, which takes all that was joined before it as its left operand; nothing else closes it.
unfoldable pub gathered : Node → List Pattern → List Item → Node
gathered x run [] = joined x (pattern_set run)
gathered x run (a_triple p ∷ is) =
    cond (eqb (length run) 15) (gathered (joined x (pattern_set run)) (p ∷ []) is) (gathered x (run ++ (p ∷ [])) is)
gathered x run (a_group n ∷ is) = gathered (joined (joined x (pattern_set run)) n) [] is
gathered x run (an_optional c n ∷ is) = gathered (left_join c (joined x (pattern_set run)) n) [] is
gathered x run (a_filter c ∷ is) = gathered x run is
gathered x run (a_projection v ∷ is) = gathered x run is
gathered x run (a_bound l u ∷ is) = gathered x run is

-- ---- projections, bounds, filters

-- the projections of a group on x, the first one innermost
unfoldable pub projected : Node → List Item → Node
projected x [] = x
projected x (a_triple p ∷ is) = projected x is
projected x (a_group n ∷ is) = projected x is
projected x (an_optional c n ∷ is) = projected x is
projected x (a_filter c ∷ is) = projected x is
projected x (a_projection v ∷ is) = projected (project_trust v x) is
projected x (a_bound l u ∷ is) = projected x is

-- the bounds of a group on x, the first one innermost
unfoldable pub bounded : Node → List Item → Node
bounded x [] = x
bounded x (a_triple p ∷ is) = bounded x is
bounded x (a_group n ∷ is) = bounded x is
bounded x (an_optional c n ∷ is) = bounded x is
bounded x (a_filter c ∷ is) = bounded x is
bounded x (a_projection v ∷ is) = bounded x is
bounded x (a_bound l u ∷ is) = bounded (ensure_trust l u x) is

-- the conditions of a group's own filters
unfoldable pub filters : List Item → List Condition
filters [] = []
filters (a_triple p ∷ is) = filters is
filters (a_group n ∷ is) = filters is
filters (an_optional c n ∷ is) = filters is
filters (a_filter c ∷ is) = c ∷ filters is
filters (a_projection v ∷ is) = filters is
filters (a_bound l u ∷ is) = filters is

-- several conditions joined by and, from the left
unfoldable pub conjoined : Condition → List Condition → Condition
conjoined c [] = c
conjoined c (d ∷ ds) = conjoined (Q.conjunction c d) ds

-- one filter for all conditions, none for none
abbrev pub filtered : List Condition → Node → Node
filtered [] x = x
filtered (c ∷ cs) x = Q.filter (conjoined c cs) x

-- the condition of a left join: true where there is none
abbrev pub condition : List Condition → Condition
condition [] = Q.always
condition (c ∷ cs) = conjoined c cs

-- ---- a group

-- projections first, then bounds
abbrev pub unfiltered : List Item → Node
unfiltered is = bounded (projected (gathered (pattern_set []) [] is) is) is

-- then filters
abbrev pub group_node : List Item → Node
group_node is = filtered (filters is) (unfiltered is)

-- of an OPTIONAL group the filters are the left join's condition
abbrev pub optional_item : List Item → Item
optional_item is = an_optional (condition (filters is)) (unfiltered is)

-- ---- a tree

unfoldable mutual
  pub items : {a : Bool} → Body a → List Item
  items end = []
  items (triple x y z b) = a_triple (pattern_of x y z) ∷ items b
  items (triple_dot x y z b) = a_triple (pattern_of x y z) ∷ items b
  items (element e b) = item_of e ∷ items b
  items (element_dot e b) = item_of e ∷ items b

  pub item_of : Element → Item
  item_of (groups g us) = a_group (united (group_node (items g)) us)
  item_of (optional g) = optional_item (items g)
  item_of (filter d) = a_filter (disjunction_of d)
  item_of (trust_as v) = a_projection v.name
  item_of (ensure l u) = a_bound (value_of l) (value_of u)

  -- UNION groups from the left
  pub united : Node → Unions → Node
  united x none = x
  united x (and_union g us) = united (union x (group_node (items g))) us

unfoldable pub meaning : Query → Node
meaning q = group_node (items q)

-- the query bytes of a derivation
unfoldable pub meaning_bytes : Query → List ℕ
meaning_bytes q = node_bytes (meaning q)
