-- How long the bytes of a meaning are: at most four for each token (`meaning-size`). Groups: conditions; a join without the empty set; the
-- passes over a group's items, each of which costs what its own items do; trees. Assumes nothing.
use mathlib.Core.Path.{◌≡◌, refl, ap}
use mathlib.Core.Bool.{Bool, true, false, cond, false≢true}
use mathlib.Core.List.{List, [], ◌∷◌, ◌++◌}
use Prim.Native.Nat.{ℕ, ◌+◌, ◌*◌, ◌≤◌}
use native.Mathlib.Omega.{arith}
use lib.Dec.{eqb}
use lib.ListN.{length, length-append}
use Rattle.tsparql.specs.Lists.{concat_map, sum_over}
use Rattle.tsparql.specs.Query.{Pattern, Condition, Node, pattern_set, join, left_join, union, project_trust, ensure_trust}
use Rattle.tsparql.specs.Query as Q
use Rattle.tsparql.specs.Writing.{pattern_bytes, condition_bytes, node_bytes, condition_size, node_size}
use Rattle.tsparql.proofs.SumLaws.{sum_over-add}
use Rattle.tsparql.proofs.QuerySize.{node_size-join, node_size-left_join, node_size-union, node_size-filter, node_size-project_trust}
use Rattle.tsparql.proofs.QuerySize.{node_size-ensure_trust}
use Rattle.grammar.specs.Tokens.{Token, mark, OR, AND, RPAREN, DOT}
use Rattle.grammar.specs.Grammar.{term, variable, Disjunction, conjuncts, either, Conjunction, single, both}
use Rattle.grammar.specs.Grammar.{Primary, negatable, equal, less, Negatable, bound, not, parens}
use Rattle.grammar.specs.Grammar.{Body, end, triple, triple_dot, element, element_dot, Query, tokens}
use Rattle.grammar.specs.Grammar.{Element, groups, optional, filter, trust_as, ensure, Unions, none, and_union}
use Rattle.grammar.specs.Grammar.{disjunction_tokens, conjunction_tokens, primary_tokens, negatable_tokens}
use Rattle.grammar.specs.Grammar.{body_tokens, element_tokens, unions_tokens}
use Rattle.grammar.specs.Meaning.{disjunction_of, conjunction_of, primary_of, negatable_of}
use Rattle.grammar.specs.Meaning.{Item, a_triple, a_group, an_optional, a_filter, a_projection, a_bound}
use Rattle.grammar.specs.Meaning.{is_empty_set, joined, gathered, projected, bounded, filters, conjoined, filtered, condition}
use Rattle.grammar.specs.Meaning.{unfiltered, group_node, items, item_of, united, meaning, meaning_bytes}

-- ---- conditions

mutual
  unfolding condition_bytes disjunction_of

  disjunction-size : (d : Disjunction) (k : List Token)
      → condition_size (disjunction_of d) + 4 * length k ≤ 4 * length (disjunction_tokens d k)
  disjunction-size (conjuncts c) k = conjunction-size c k
  disjunction-size (either d c) k =
      let h = disjunction-size d (mark OR ∷ conjunction_tokens c k) in
      let i = conjunction-size c k in
      omega (arith, length-append (condition_bytes (disjunction_of d)) (condition_bytes (conjunction_of c)))

  conjunction-size : (c : Conjunction) (k : List Token)
      → condition_size (conjunction_of c) + 4 * length k ≤ 4 * length (conjunction_tokens c k)
  conjunction-size (single p) k = primary-size p k
  conjunction-size (both c p) k =
      let h = conjunction-size c (mark AND ∷ primary_tokens p k) in
      let i = primary-size p k in
      omega (arith, length-append (condition_bytes (conjunction_of c)) (condition_bytes (primary_of p)))

  primary-size : (p : Primary) (k : List Token) → condition_size (primary_of p) + 4 * length k ≤ 4 * length (primary_tokens p k)
  primary-size (negatable n) k = negatable-size n k
  primary-size (equal v (term t)) k = omega arith
  primary-size (equal v (variable w)) k = omega arith
  primary-size (less v w) k = omega arith

  negatable-size : (n : Negatable) (k : List Token) → condition_size (negatable_of n) + 4 * length k ≤ 4 * length (negatable_tokens n k)
  negatable-size (bound v) k = omega arith
  negatable-size (not n) k = let h = negatable-size n k in omega arith
  negatable-size (parens d) k = let h = disjunction-size d (mark RPAREN ∷ k) in omega arith

-- ---- joins

-- what a node costs in a join, from which the empty set is dropped
weight : Node → ℕ
weight x = cond (is_empty_set x) 0 (node_size x)

empty-size : (x : Node) → is_empty_set x ≡ true → node_size x ≡ 1
unfolding node_bytes
empty-size (pattern_set []) e = refl
empty-size (pattern_set (p ∷ ps)) e = absurd (false≢true e)
empty-size (join x y) e = absurd (false≢true e)
empty-size (left_join c x y) e = absurd (false≢true e)
empty-size (union x y) e = absurd (false≢true e)
empty-size (Q.filter c x) e = absurd (false≢true e)
empty-size (project_trust v x) e = absurd (false≢true e)
empty-size (ensure_trust l u x) e = absurd (false≢true e)

size-weight : (x : Node) → node_size x ≤ weight x + 1
unfolding weight
size-weight x = go (is_empty_set x) refl
  where
    go : (b : Bool) → is_empty_set x ≡ b → node_size x ≤ cond b 0 (node_size x) + 1
    go true e = omega (arith, empty-size x e)
    go false e = omega arith

weight-size : (x : Node) → weight x ≤ node_size x
unfolding weight
weight-size x = go (is_empty_set x)
  where
    go : (b : Bool) → cond b 0 (node_size x) ≤ node_size x
    go true = omega arith
    go false = omega arith

weight-joined : (x y : Node) → weight (joined x y) ≤ weight x + weight y + 1
unfolding weight
weight-joined x y = go (is_empty_set x) refl (is_empty_set y) refl
  where
    go : (b : Bool) → is_empty_set x ≡ b → (c : Bool) → is_empty_set y ≡ c
        → weight (cond b y (cond c x (join x y))) ≤ cond b 0 (node_size x) + cond c 0 (node_size y) + 1
    go true e c f = rw f (omega arith)
    go false e true f = rw e (omega arith)
    go false e false f = omega (arith, node_size-join x y)

-- a run of triples, with the byte of a join
run_weight : List Pattern → ℕ
run_weight [] = 0
run_weight (p ∷ ps) = 11 + 9 * length ps

pub patterns-size : (ps : List Pattern) → length (concat_map pattern_bytes ps) ≡ 9 * length ps
unfolding pattern_bytes
patterns-size [] = refl
patterns-size (p ∷ ps) = let h = patterns-size ps in omega (arith, length-append (pattern_bytes p) (concat_map pattern_bytes ps))

weight-set : (p : Pattern) (ps : List Pattern) → weight (pattern_set (p ∷ ps)) + 1 ≡ run_weight (p ∷ ps)
unfolding weight run_weight node_bytes
weight-set p ps = let h = patterns-size (p ∷ ps) in omega arith

weight-run : (x : Node) (run : List Pattern) → weight (joined x (pattern_set run)) ≤ weight x + run_weight run
unfolding weight run_weight
weight-run x [] = go (is_empty_set x) refl
  where
    go : (b : Bool) → is_empty_set x ≡ b → weight (cond b (pattern_set []) x) ≤ cond b 0 (node_size x) + 0
    go true e = omega arith
    go false e = rw e (omega arith)
weight-run x (p ∷ ps) = omega (arith, weight-joined x (pattern_set (p ∷ ps)), weight-set p ps)

run_weight-more : (run : List Pattern) (p : Pattern) → run_weight (run ++ (p ∷ [])) ≤ run_weight run + 11
unfolding run_weight
run_weight-more [] p = omega arith
run_weight-more (q ∷ run) p = omega (arith, length-append run (p ∷ []))

-- ---- the passes over a group's items

-- what an item costs in joins, as a projection, as a bound, as a filter
join_cost : Item → ℕ
join_cost (a_triple p) = 12
join_cost (a_group n) = 1 + node_size n
join_cost (an_optional c n) = 2 + condition_size c + node_size n
join_cost (a_filter c) = 0
join_cost (a_projection v) = 0
join_cost (a_bound l u) = 0

project_cost : Item → ℕ
project_cost (a_triple p) = 0
project_cost (a_group n) = 0
project_cost (an_optional c n) = 0
project_cost (a_filter c) = 0
project_cost (a_projection v) = 1
project_cost (a_bound l u) = 0

bound_cost : Item → ℕ
bound_cost (a_triple p) = 0
bound_cost (a_group n) = 0
bound_cost (an_optional c n) = 0
bound_cost (a_filter c) = 0
bound_cost (a_projection v) = 0
bound_cost (a_bound l u) = 4

filter_cost : Item → ℕ
filter_cost (a_triple p) = 0
filter_cost (a_group n) = 0
filter_cost (an_optional c n) = 0
filter_cost (a_filter c) = 1 + condition_size c
filter_cost (a_projection v) = 0
filter_cost (a_bound l u) = 0

pub cost : Item → ℕ
cost i = join_cost i + project_cost i + (bound_cost i + filter_cost i)

pub costs : List Item → ℕ
costs is = sum_over is cost

costs-parts : (is : List Item)
    → costs is ≡ sum_over is join_cost + sum_over is project_cost + (sum_over is bound_cost + sum_over is filter_cost)
unfolding costs cost
costs-parts is =
    omega (
      arith,
      sum_over-add is (λ i. join_cost i + project_cost i) (λ i. bound_cost i + filter_cost i),
      sum_over-add is join_cost project_cost,
      sum_over-add is bound_cost filter_cost,
    )

gathered-size : (is : List Item) (x : Node) (run : List Pattern)
    → node_size (gathered x run is) ≤ weight x + run_weight run + sum_over is join_cost + 1
unfolding gathered join_cost run_weight
gathered-size [] x run = omega (arith, size-weight (joined x (pattern_set run)), weight-run x run)
gathered-size (a_triple p ∷ is) x run =
    go (eqb (length run) 15) (gathered-size is (joined x (pattern_set run)) (p ∷ [])) (gathered-size is x (run ++ (p ∷ [])))
  where
    go : (b : Bool)
        → node_size (gathered (joined x (pattern_set run)) (p ∷ []) is)
        ≤ weight (joined x (pattern_set run)) + run_weight (p ∷ []) + sum_over is join_cost + 1
        → node_size (gathered x (run ++ (p ∷ [])) is) ≤ weight x + run_weight (run ++ (p ∷ [])) + sum_over is join_cost + 1
        → node_size (cond b (gathered (joined x (pattern_set run)) (p ∷ []) is) (gathered x (run ++ (p ∷ [])) is))
        ≤ weight x + run_weight run + (12 + sum_over is join_cost) + 1
    go true h i = omega (arith, weight-run x run)
    go false h i = omega (arith, run_weight-more run p)
gathered-size (a_group n ∷ is) x run =
    let before = joined x (pattern_set run) in
    omega (arith, gathered-size is (joined before n) [], weight-joined before n, weight-run x run, weight-size n)
gathered-size (an_optional c n ∷ is) x run =
    let before = joined x (pattern_set run) in
    omega (
      arith,
      gathered-size is (left_join c before n) [],
      weight-size (left_join c before n),
      node_size-left_join c before n,
      size-weight before,
      weight-run x run,
    )
gathered-size (a_filter c ∷ is) x run = omega (arith, gathered-size is x run)
gathered-size (a_projection v ∷ is) x run = omega (arith, gathered-size is x run)
gathered-size (a_bound l u ∷ is) x run = omega (arith, gathered-size is x run)

projected-size : (is : List Item) (x : Node) → node_size (projected x is) ≡ node_size x + sum_over is project_cost
unfolding projected project_cost
projected-size [] x = omega arith
projected-size (a_triple p ∷ is) x = omega (arith, projected-size is x)
projected-size (a_group n ∷ is) x = omega (arith, projected-size is x)
projected-size (an_optional c n ∷ is) x = omega (arith, projected-size is x)
projected-size (a_filter c ∷ is) x = omega (arith, projected-size is x)
projected-size (a_projection v ∷ is) x = omega (arith, projected-size is (project_trust v x), node_size-project_trust v x)
projected-size (a_bound l u ∷ is) x = omega (arith, projected-size is x)

bounded-size : (is : List Item) (x : Node) → node_size (bounded x is) ≡ node_size x + sum_over is bound_cost
unfolding bounded bound_cost
bounded-size [] x = omega arith
bounded-size (a_triple p ∷ is) x = omega (arith, bounded-size is x)
bounded-size (a_group n ∷ is) x = omega (arith, bounded-size is x)
bounded-size (an_optional c n ∷ is) x = omega (arith, bounded-size is x)
bounded-size (a_filter c ∷ is) x = omega (arith, bounded-size is x)
bounded-size (a_projection v ∷ is) x = omega (arith, bounded-size is x)
bounded-size (a_bound l u ∷ is) x = omega (arith, bounded-size is (ensure_trust l u x), node_size-ensure_trust l u x)

unfiltered-size : (is : List Item)
    → node_size (unfiltered is) ≤ sum_over is join_cost + sum_over is project_cost + sum_over is bound_cost + 1
unfolding weight run_weight
unfiltered-size is =
    let x = gathered (pattern_set []) [] is in
    omega (arith, bounded-size is (projected x is), projected-size is x, gathered-size is (pattern_set []) [])

-- the conditions of filters, each with the byte of an and or of the filter
filters_cost : List Condition → ℕ
filters_cost cs = sum_over cs (λ c. 1 + condition_size c)

filters-cost : (is : List Item) → filters_cost (filters is) ≡ sum_over is filter_cost
unfolding filters filters_cost filter_cost
filters-cost [] = refl
filters-cost (a_triple p ∷ is) = omega (arith, filters-cost is)
filters-cost (a_group n ∷ is) = omega (arith, filters-cost is)
filters-cost (an_optional c n ∷ is) = omega (arith, filters-cost is)
filters-cost (a_filter c ∷ is) = ap (λ (n : ℕ). 1 + condition_size c + n) (filters-cost is)
filters-cost (a_projection v ∷ is) = omega (arith, filters-cost is)
filters-cost (a_bound l u ∷ is) = omega (arith, filters-cost is)

conjoined-size : (cs : List Condition) (c : Condition) → condition_size (conjoined c cs) ≡ condition_size c + filters_cost cs
unfolding conjoined filters_cost condition_bytes
conjoined-size [] c = omega arith
conjoined-size (d ∷ cs) c =
    omega (arith, conjoined-size cs (Q.conjunction c d), length-append (condition_bytes c) (condition_bytes d))

filtered-size : (cs : List Condition) (x : Node) → node_size (filtered cs x) ≡ node_size x + filters_cost cs
unfolding filters_cost
filtered-size [] x = omega arith
filtered-size (c ∷ cs) x = omega (arith, node_size-filter (conjoined c cs) x, conjoined-size cs c)

condition-size : (cs : List Condition) → condition_size (condition cs) ≤ 1 + filters_cost cs
unfolding filters_cost condition_bytes
condition-size [] = omega arith
condition-size (c ∷ cs) = omega (arith, conjoined-size cs c)

pub group-size : (is : List Item) → node_size (group_node is) ≤ costs is + 1
group-size is =
    omega (arith, filtered-size (filters is) (unfiltered is), unfiltered-size is, filters-cost is, costs-parts is)

pub optional-size : (is : List Item) → condition_size (condition (filters is)) + node_size (unfiltered is) ≤ costs is + 2
optional-size is = omega (arith, condition-size (filters is), unfiltered-size is, filters-cost is, costs-parts is)

-- ---- trees

mutual
  unfolding items costs cost join_cost project_cost bound_cost filter_cost

  pub tree-size : {a : Bool} (b : Body a) (k : List Token) → costs (items b) + 4 + 4 * length k ≤ 4 * length (body_tokens b k)
  tree-size end k = omega arith
  tree-size (triple x y z b) k = let h = tree-size b k in omega arith
  tree-size (triple_dot x y z b) k = let h = tree-size b k in omega arith
  tree-size (element e b) k = let h = tree-size b k in let g = element-size e (body_tokens b k) in omega arith
  tree-size (element_dot e b) k = let h = tree-size b k in let g = element-size e (mark DOT ∷ body_tokens b k) in omega arith

  element-size : (e : Element) (k : List Token) → cost (item_of e) + 4 * length k ≤ 4 * length (element_tokens e k)
  element-size (groups g us) k =
      let h = tree-size g (unions_tokens us k) in
      let i = unions-size us (group_node (items g)) k in
      omega (arith, group-size (items g))
  element-size (optional g) k = let h = tree-size g k in omega (arith, optional-size (items g))
  element-size (filter d) k = let h = disjunction-size d (mark RPAREN ∷ k) in omega arith
  element-size (trust_as v) k = omega arith
  element-size (ensure l u) k = omega arith

  unions-size : (us : Unions) (x : Node) (k : List Token)
      → node_size (united x us) + 4 * length k ≤ node_size x + 4 * length (unions_tokens us k)
  unions-size none x k = omega arith
  unions-size (and_union g us) x k =
      let h = tree-size g (unions_tokens us k) in
      let i = unions-size us (union x (group_node (items g))) k in
      omega (arith, group-size (items g), node_size-union x (group_node (items g)))

-- four bytes a token at most
pub meaning-size : (q : Query) → length (meaning_bytes q) ≤ 4 * length (tokens q)
unfolding meaning_bytes meaning
meaning-size q = let h = tree-size q [] in omega (arith, group-size (items q))
