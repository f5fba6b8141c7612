-- The meaning of a derivation is a query in range (`meaning-formed`), so its bytes are read back as it (`meaning-read`), and their check
-- never refuses with 6 (`meaning-checked`). Groups: conditions; items and joins; a group; trees. Assumes nothing.
use mathlib.Core.Path.{◌≡◌}
use mathlib.Core.Bool.{Bool}
use mathlib.Core.List.{List, [], ◌∷◌, ◌++◌}
use Prim.Native.Nat.{ℕ, ◌≤◌, ◌<◌}
use native.Mathlib.Omega.{arith}
use lib.Dec.{eqb, ltb}
use lib.ListN.{length, length-append}
use borrow.Author.Tests.{eqb-false}
use Rattle.tsparql.specs.Lists.{Every}
use Rattle.tsparql.specs.Query.{Pattern, Condition, Node, pattern_set, left_join, union, project_trust, ensure_trust}
use Rattle.tsparql.specs.Query as Q
use Rattle.tsparql.specs.Reading.{got, read_query}
use Rattle.tsparql.specs.WellFormed.{VariableFormed, SlotFormed, PatternFormed, ConditionFormed, NodeFormed}
use Rattle.tsparql.specs.Check.{refuse_if, or_else, variables_refusal, query_refusal}
use Rattle.tsparql.proofs.ListLaws.{every_append}
use Rattle.tsparql.proofs.ReadWritten.{read_query-written}
use Rattle.grammar.specs.Grammar.{Variable, Slot, term, variable, Thousandths, plus, minus}
use Rattle.grammar.specs.Grammar.{Disjunction, conjuncts, either, Conjunction, single, both}
use Rattle.grammar.specs.Grammar.{Primary, negatable, equal, less, Negatable, bound, not, parens}
use Rattle.grammar.specs.Grammar.{Body, end, triple, triple_dot, element, element_dot, Query}
use Rattle.grammar.specs.Grammar.{Element, groups, optional, filter, trust_as, ensure, Unions, none, and_union}
use Rattle.grammar.specs.Meaning.{slot_of, pattern_of, value_of, equation, disjunction_of, conjunction_of, primary_of, negatable_of}
use Rattle.grammar.specs.Meaning.{Item, a_triple, a_group, an_optional, a_filter, a_projection, a_bound}
use Rattle.grammar.specs.Meaning.{is_empty_set, joined, gathered, projected, bounded, filters, conjoined, filtered, condition}
use Rattle.grammar.specs.Meaning.{unfiltered, group_node, items, item_of, united, meaning, meaning_bytes}
use Rattle.grammar.proofs.Basics.{cond_cases}

-- ---- conditions

variable-formed : (v : Variable) → VariableFormed v.name
variable-formed v = omega (arith, v.small)

slot-formed : (s : Slot) → SlotFormed (slot_of s)
slot-formed (term t) = (t.least, omega (arith, t.most))
slot-formed (variable v) = variable-formed v

pattern-formed : (x y z : Slot) → PatternFormed (pattern_of x y z)
pattern-formed x y z = (slot-formed x, slot-formed y, slot-formed z)

value-formed : (x : Thousandths) → value_of x ≤ 2000
value-formed (plus n h) = omega (arith, h)
value-formed (minus n l h) = omega (arith, l)

equation-formed : (v : Variable) (s : Slot) → ConditionFormed (equation v s)
equation-formed v (term t) = (variable-formed v, slot-formed (term t))
equation-formed v (variable w) = (variable-formed v, variable-formed w)

mutual
  unfolding disjunction_of

  disjunction-formed : (d : Disjunction) → ConditionFormed (disjunction_of d)
  disjunction-formed (conjuncts c) = conjunction-formed c
  disjunction-formed (either d c) = (disjunction-formed d, conjunction-formed c)

  conjunction-formed : (c : Conjunction) → ConditionFormed (conjunction_of c)
  conjunction-formed (single p) = primary-formed p
  conjunction-formed (both c p) = (conjunction-formed c, primary-formed p)

  primary-formed : (p : Primary) → ConditionFormed (primary_of p)
  primary-formed (negatable n) = negatable-formed n
  primary-formed (equal v s) = equation-formed v s
  primary-formed (less v w) = (variable-formed v, variable-formed w)

  negatable-formed : (n : Negatable) → ConditionFormed (negatable_of n)
  negatable-formed (bound v) = variable-formed v
  negatable-formed (not n) = negatable-formed n
  negatable-formed (parens d) = disjunction-formed d

-- ---- items and joins

-- an item is in range
abbrev ItemFormed : Item → Type 0
ItemFormed (a_triple p) = PatternFormed p
ItemFormed (a_group n) = NodeFormed n
ItemFormed (an_optional c n) = ConditionFormed c × NodeFormed n
ItemFormed (a_filter c) = ConditionFormed c
ItemFormed (a_projection v) = VariableFormed v
ItemFormed (a_bound l u) = (l ≤ 2000) × (u ≤ 2000)

joined-formed : (x y : Node) → NodeFormed x → NodeFormed y → NodeFormed (joined x y)
joined-formed x y f g =
    cond_cases NodeFormed (is_empty_set x) (λ e. g) (λ e. cond_cases NodeFormed (is_empty_set y) (λ d. f) (λ d. (f, g)))

-- a run is a set
abbrev RunFormed : List Pattern → Type 0
RunFormed run = NodeFormed (pattern_set run)

gathered-formed : (x : Node) (run : List Pattern) (is : List Item) → NodeFormed x → RunFormed run → Every ItemFormed is
    → NodeFormed (gathered x run is)
unfolding gathered
gathered-formed x run [] f r h = joined-formed x (pattern_set run) f r
gathered-formed x run (a_triple p ∷ is) f r h =
    cond_cases NodeFormed (eqb (length run) 15)
    (λ e. gathered-formed (joined x (pattern_set run)) (p ∷ []) is (joined-formed x (pattern_set run) f r) (omega arith, (h.0, tt)) h.1)
    (λ e.
    let few : length (run ++ (p ∷ [])) < 16 = omega (arith, r.0, eqb-false (length run) 15 e, length-append run (p ∷ [])) in
    gathered-formed x (run ++ (p ∷ [])) is f (few, every_append PatternFormed run (p ∷ []) r.1 (h.0, tt)) h.1)
gathered-formed x run (a_group n ∷ is) f r h =
    gathered-formed (joined (joined x (pattern_set run)) n) [] is
    (joined-formed (joined x (pattern_set run)) n (joined-formed x (pattern_set run) f r) h.0) (omega arith, tt) h.1
gathered-formed x run (an_optional c n ∷ is) f r h =
    gathered-formed (left_join c (joined x (pattern_set run)) n) [] is (h.0.0, joined-formed x (pattern_set run) f r, h.0.1)
    (omega arith, tt) h.1
gathered-formed x run (a_filter c ∷ is) f r h = gathered-formed x run is f r h.1
gathered-formed x run (a_projection v ∷ is) f r h = gathered-formed x run is f r h.1
gathered-formed x run (a_bound l u ∷ is) f r h = gathered-formed x run is f r h.1

projected-formed : (x : Node) (is : List Item) → NodeFormed x → Every ItemFormed is → NodeFormed (projected x is)
unfolding projected
projected-formed x [] f h = f
projected-formed x (a_triple p ∷ is) f h = projected-formed x is f h.1
projected-formed x (a_group n ∷ is) f h = projected-formed x is f h.1
projected-formed x (an_optional c n ∷ is) f h = projected-formed x is f h.1
projected-formed x (a_filter c ∷ is) f h = projected-formed x is f h.1
projected-formed x (a_projection v ∷ is) f h = projected-formed (project_trust v x) is (h.0, f) h.1
projected-formed x (a_bound l u ∷ is) f h = projected-formed x is f h.1

bounded-formed : (x : Node) (is : List Item) → NodeFormed x → Every ItemFormed is → NodeFormed (bounded x is)
unfolding bounded
bounded-formed x [] f h = f
bounded-formed x (a_triple p ∷ is) f h = bounded-formed x is f h.1
bounded-formed x (a_group n ∷ is) f h = bounded-formed x is f h.1
bounded-formed x (an_optional c n ∷ is) f h = bounded-formed x is f h.1
bounded-formed x (a_filter c ∷ is) f h = bounded-formed x is f h.1
bounded-formed x (a_projection v ∷ is) f h = bounded-formed x is f h.1
bounded-formed x (a_bound l u ∷ is) f h = bounded-formed (ensure_trust l u x) is (h.0.0, h.0.1, f) h.1

filters-formed : (is : List Item) → Every ItemFormed is → Every ConditionFormed (filters is)
unfolding filters
filters-formed [] h = tt
filters-formed (a_triple p ∷ is) h = filters-formed is h.1
filters-formed (a_group n ∷ is) h = filters-formed is h.1
filters-formed (an_optional c n ∷ is) h = filters-formed is h.1
filters-formed (a_filter c ∷ is) h = (h.0, filters-formed is h.1)
filters-formed (a_projection v ∷ is) h = filters-formed is h.1
filters-formed (a_bound l u ∷ is) h = filters-formed is h.1

conjoined-formed : (c : Condition) (cs : List Condition) → ConditionFormed c → Every ConditionFormed cs → ConditionFormed (conjoined c cs)
unfolding conjoined
conjoined-formed c [] f h = f
conjoined-formed c (d ∷ ds) f h = conjoined-formed (Q.conjunction c d) ds (f, h.0) h.1

-- ---- a group

filtered-formed : (cs : List Condition) (x : Node) → Every ConditionFormed cs → NodeFormed x → NodeFormed (filtered cs x)
filtered-formed [] x h f = f
filtered-formed (c ∷ cs) x h f = (conjoined-formed c cs h.0 h.1, f)

condition-formed : (cs : List Condition) → Every ConditionFormed cs → ConditionFormed (condition cs)
condition-formed [] h = tt
condition-formed (c ∷ cs) h = conjoined-formed c cs h.0 h.1

unfiltered-formed : (is : List Item) → Every ItemFormed is → NodeFormed (unfiltered is)
unfiltered-formed is h =
    let g = gathered-formed (pattern_set []) [] is (omega arith, tt) (omega arith, tt) h in
    bounded-formed (projected (gathered (pattern_set []) [] is) is) is (projected-formed (gathered (pattern_set []) [] is) is g h) h

group-formed : (is : List Item) → Every ItemFormed is → NodeFormed (group_node is)
group-formed is h = filtered-formed (filters is) (unfiltered is) (filters-formed is h) (unfiltered-formed is h)

-- ---- trees

mutual
  unfolding items

  items-formed : {a : Bool} (b : Body a) → Every ItemFormed (items b)
  items-formed end = tt
  items-formed (triple x y z b) = (pattern-formed x y z, items-formed b)
  items-formed (triple_dot x y z b) = (pattern-formed x y z, items-formed b)
  items-formed (element e b) = (item-formed e, items-formed b)
  items-formed (element_dot e b) = (item-formed e, items-formed b)

  item-formed : (e : Element) → ItemFormed (item_of e)
  item-formed (groups g us) = united-formed us (group_node (items g)) (group-formed (items g) (items-formed g))
  item-formed (optional g) =
      let h = items-formed g in
      (condition-formed (filters (items g)) (filters-formed (items g) h), unfiltered-formed (items g) h)
  item-formed (filter d) = disjunction-formed d
  item-formed (trust_as v) = variable-formed v
  item-formed (ensure l u) = (value-formed l, value-formed u)

  united-formed : (us : Unions) (x : Node) → NodeFormed x → NodeFormed (united x us)
  united-formed none x f = f
  united-formed (and_union g us) x f =
      united-formed us (union x (group_node (items g))) (f, group-formed (items g) (items-formed g))

-- a meaning is a query in range
pub meaning-formed : (q : Query) → NodeFormed (meaning q)
unfolding meaning
meaning-formed q = group-formed (items q) (items-formed q)

-- its bytes are read back as it
pub meaning-read : (q : Query) → read_query (meaning_bytes q) ≡ got (meaning q) (length (meaning_bytes q))
unfolding meaning_bytes
meaning-read q = read_query-written (meaning q) (meaning-formed q)

-- so their check has 5 for their length and 7 for the query's variables, and never 6
pub meaning-checked : (limit : ℕ) (q : Query)
    → query_refusal limit (meaning_bytes q)
    ≡ or_else (refuse_if (ltb limit (length (meaning_bytes q))) 5 0) (variables_refusal (meaning q))
unfolding query_refusal
meaning-checked limit q = rw (meaning-read q)
