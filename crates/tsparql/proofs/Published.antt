-- Every node of a query that passes the check with its table has the cardinalities with the difference of SPARQL 1.1
-- (`checked-sparql11`), and the published ones of every row on whose merges its condition does not err (`checked-published`): pattern
-- sets by Solutions, operators by Cardinalities. Groups: what a solution sets (`solution-set`); the least trust is an aggregate of graphs
-- (`least-set`), so both choices are (`aggregate-set`); nodes. Assumes nothing.
use mathlib.Core.Path.{◌≡◌, refl, sym, ap, subst, ◌∙◌}
use mathlib.Core.Bool.{Bool, true, false, ◌&&◌, ◌||◌, and_comm, and-false}
use mathlib.Core.List.{List, [], ◌∷◌, ◌++◌}
use Prim.Native.Nat.{ℕ, ◌≤◌, ◌<◌, min}
use native.Mathlib.Omega.{arith}
use lib.Dec.{eqb, leb}
use lib.ListN.{length}
use borrow.Author.Tests.{leb-true, leb-false, le-leb}
use Rattle.tsparql.specs.Lists.{Every, all_pass, any_pass, concat_map}
use Rattle.tsparql.specs.Values.{Trust, known, unknown, Cell, term, cell_at}
use Rattle.tsparql.specs.Values.{lesser, is_free, same_cell}
use Rattle.tsparql.specs.Query.{Slot, a_term, a_variable, Pattern}
use Rattle.tsparql.specs.Query.{Node, pattern_set, join, left_join, union, filter, project_trust, ensure_trust}
use Rattle.tsparql.specs.Table.{Fact, whole_table, facts_in}
use Rattle.tsparql.specs.PatternSets.{Aggregate, least, Aggregation, by_least, by_mean, aggregate, set_rows}
use Rattle.tsparql.specs.Reading.{query_node}
use Rattle.tsparql.specs.WellFormed.{SlotFormed, PatternFormed, NodeFormed}
use Rattle.tsparql.specs.Check.{Passes, slot_variables, variables_of, evaluate_limit, check}
use Rattle.tsparql.specs.Cardinality.{slot_cell, becomes, becomes_record, is_solution}
use Rattle.tsparql.specs.Cardinality.{SameRecords, SetAggregate, set_cardinality, Sparql11, Published, EveryNode}
use Rattle.tsparql.proofs.ListLaws.{and_left, and_right, and_both, and-interchange, test-eq}
use Rattle.tsparql.proofs.ListLaws.{every-weaken, every_append, every-concat_map, all_pass-passes}
use Rattle.tsparql.proofs.TableLaws.{Rising, key, facts_in-rising}
use Rattle.tsparql.proofs.QueryLaws.{check-parts, query-checked}
use Rattle.tsparql.proofs.Cardinalities.{same_cell-true, cardinality-node, cardinality-no_error}
use Rattle.tsparql.proofs.GraphLaws.{mean-set}
use Rattle.tsparql.proofs.Solutions.{becomes-parts, cardinality-set}

-- ---- what a solution sets

-- the variable is set
abbrev IsSet : List Cell → ℕ → Type 0
IsSet cs v = is_free (cell_at cs v) ≡ false

becomes_set : (cs : List Cell) (p : Pattern) (f : Fact) → becomes cs p f ≡ true → Every (IsSet cs) (variables_of p)
becomes_set cs p f h =
    let parts = becomes-parts cs p f h in
    every_append (IsSet cs) (slot_variables p.subject) _ (slot p.subject f.subject parts.0)
    (every_append (IsSet cs) (slot_variables p.predicate) _ (slot p.predicate f.predicate parts.1)
    (slot p.object f.object parts.2))
  where
    slot : (s : Slot) (b : ℕ) → same_cell (slot_cell cs s) (term b) ≡ true → Every (IsSet cs) (slot_variables s)
    slot (a_term a) b e = tt
    slot (a_variable v) b e = (ap is_free (same_cell-true (cell_at cs v) (term b) e), tt)

-- what one element that passes gives
any_pass-gives : {A : Type 0} (C : Type 0) (p : A → Bool) (xs : List A) → ((x : A) → p x ≡ true → C) → any_pass p xs ≡ true → C
any_pass-gives C p [] h e = absurd (let z : ◌≡◌ {A = ℕ} 0 1 = cc in omega arith)
any_pass-gives C p (x ∷ xs) h e = at (p x) refl e (any_pass-gives C p xs h)
  where
    at : (t : Bool) → p x ≡ t → t || any_pass p xs ≡ true → (any_pass p xs ≡ true → C) → C
    at true d e k = h x d
    at false d e k = k e

-- a solution sets every variable of the patterns
pub solution-set : (fs : List Fact) (ps : List Pattern) (cs : List Cell) → is_solution fs ps cs ≡ true
    → Every (IsSet cs) (concat_map variables_of ps)
solution-set fs ps cs e =
    every-concat_map (IsSet cs) variables_of ps
    (every-weaken (λ p k. any_pass-gives (Every (IsSet cs) (variables_of p)) (becomes cs p) fs (becomes_set cs p) k) ps
    (all_pass-passes (becomes_record fs cs) ps (and_right (eqb (length cs) 16) _ (and_left _ _ e))))

-- ---- both choices are aggregates of graphs

-- the trust is known, and k at least
abbrev reaches : ℕ → Trust → Bool
reaches k (known t) = leb k t
reaches k unknown = false

reaches-lesser : (k : ℕ) (s t : Trust) → reaches k (lesser s t) ≡ reaches k s && reaches k t
reaches-lesser k (known a) (known b) =
    test-eq (leb k (min a b)) (leb k a && leb k b)
    (λ e. let h = leb-true k (min a b) e in and_both (le-leb k a (omega arith)) (le-leb k b (omega arith)))
    (λ e. le-leb k (min a b)
    (omega (arith, leb-true k a (and_left (leb k a) (leb k b) e), leb-true k b (and_right (leb k a) (leb k b) e))))
reaches-lesser k (known a) unknown = sym (and-false (leb k a))
reaches-lesser k unknown t = refl

-- the least trust reaches k where every trust does
least-reaches : (k : ℕ) (us : List Fact) → reaches k (least us) ≡ leb k 2000 && all_pass (λ f. reaches k f.trust) us
unfolding least
least-reaches k [] = and_comm true (leb k 2000)
least-reaches k (f ∷ us) =
    reaches-lesser k f.trust (least us)
    ∙ ap (λ (t : Bool). reaches k f.trust && t) (least-reaches k us)
    ∙ and-interchange true (reaches k f.trust) (leb k 2000) (all_pass (λ u. reaches k u.trust) us)

-- trusts that reach the same are the same
reaches_same : (s t : Trust) → ((k : ℕ) → reaches k s ≡ reaches k t) → s ≡ t
reaches_same (known a) (known b) h =
    let below : a ≤ b = leb-true a b (sym (h a) ∙ le-leb a a (omega arith)) in
    let above : b ≤ a = leb-true b a (h b ∙ le-leb b b (omega arith)) in
    let same : a ≡ b = omega arith in
    ap known same
reaches_same (known a) unknown h = absurd (omega (arith, leb-false 0 a (h 0)))
reaches_same unknown (known b) h = absurd (omega (arith, leb-false 0 b (sym (h 0))))
reaches_same unknown unknown h = refl

-- the same records have one least trust, also where they are no graph
pub least-same : (us vs : List Fact) → SameRecords us vs → least us ≡ least vs
least-same us vs same =
    reaches_same (least us) (least vs)
    (λ k. least-reaches k us ∙ ap (λ (t : Bool). leb k 2000 && t) (same (λ f. reaches k f.trust)) ∙ sym (least-reaches k vs))

pub least-set : SetAggregate least
least-set us vs _ same = least-same us vs same

pub aggregate-set : (g : Aggregation) → SetAggregate (aggregate g)
aggregate-set by_least = least-set
aggregate-set by_mean = mean-set

-- ---- nodes

-- the variables of a well-formed pattern are below 16
formed-variables : (p : Pattern) → PatternFormed p → Every (λ v. v < 16) (variables_of p)
formed-variables p h =
    let second = slot_variables p.predicate in
    let third = slot_variables p.object in
    every_append (λ v. v < 16) (slot_variables p.subject) (second ++ third) (slot p.subject h.0)
    (every_append (λ v. v < 16) second third (slot p.predicate h.1) (slot p.object h.2))
  where
    slot : (s : Slot) → SlotFormed s → Every (λ v. v < 16) (slot_variables s)
    slot (a_term a) k = tt
    slot (a_variable v) k = (k, tt)

-- over facts whose triples rise, and an aggregate of graphs
module _ (g : Aggregate) (set : SetAggregate g) (fs : List Fact) (k : Rising key fs) where
  -- the rows of a well-formed node have the cardinalities with the difference of SPARQL 1.1
  pub cardinality-formed : (q : Node) → NodeFormed q → Sparql11 g fs q
  cardinality-formed q h r =
      cardinality-node (set_cardinality g fs) (set_rows g fs) q r λ ps e.
      let formed = subst NodeFormed e h in
      cardinality-set g set fs k ps (every-concat_map (λ v. v < 16) variables_of ps (every-weaken formed-variables ps formed.1)) r

  -- and the published ones, of a row on whose merges a left join's condition does not err
  pub cardinality-published : (q : Node) → NodeFormed q → Published g fs q
  cardinality-published q h r e = cardinality-formed q h r ∙ cardinality-no_error (set_cardinality g fs) (set_rows g fs) q r e

-- what holds of every well-formed node holds of every node in such a one
formed-every : (P : Node → Type 0) → ((q : Node) → NodeFormed q → P q) → (q : Node) → NodeFormed q → EveryNode P q
formed-every P p (pattern_set ps) h = p (pattern_set ps) h
formed-every P p (join x y) h = (p (join x y) h, formed-every P p x h.0, formed-every P p y h.1)
formed-every P p (left_join c x y) h = (p (left_join c x y) h, formed-every P p x h.1, formed-every P p y h.2)
formed-every P p (union x y) h = (p (union x y) h, formed-every P p x h.0, formed-every P p y h.1)
formed-every P p (filter c x) h = (p (filter c x) h, formed-every P p x h.1)
formed-every P p (project_trust v x) h = (p (project_trust v x) h, formed-every P p x h.1)
formed-every P p (ensure_trust l u x) h = (p (ensure_trust l u x) h, formed-every P p x h.2)

-- over a table and a query that pass the check
module _ (g : Aggregate) (set : SetAggregate g) (t s : List ℕ) (z : Passes (check t s)) where
  abbrev facts : List Fact
  facts = facts_in (whole_table t) t

  rising : Rising key facts
  rising = facts_in-rising t (check-parts t s z).0

  formed : NodeFormed (query_node s)
  formed = (query-checked evaluate_limit s (check-parts t s z).1).formed

  -- the whole query's rows
  pub query-sparql11 : Sparql11 g facts (query_node s)
  query-sparql11 = cardinality-formed g set facts rising (query_node s) formed

  pub query-published : Published g facts (query_node s)
  query-published = cardinality-published g set facts rising (query_node s) formed

  -- at every node of the query the rows have the cardinalities with the difference of SPARQL 1.1
  pub checked-sparql11 : EveryNode (Sparql11 g facts) (query_node s)
  checked-sparql11 = formed-every (Sparql11 g facts) (cardinality-formed g set facts rising) (query_node s) formed

  -- and the published ones, of a row on whose merges a left join's condition does not err
  pub checked-published : EveryNode (Published g facts) (query_node s)
  checked-published = formed-every (Published g facts) (cardinality-published g set facts rising) (query_node s) formed
