-- The tokens of a tree have the tree's meaning, so a text has one meaning. Groups: slots, bounds and fixed tokens; conditions; groups;
-- texts. Assumes nothing.
use mathlib.Core.Path.{◌≡◌, refl, sym, ap, ◌∙◌, subst}
use mathlib.Core.Bool.{Bool, true, false}
use mathlib.Core.List.{List, [], ◌∷◌}
use mathlib.Core.Option.{some, some-injective}
use Prim.Native.Nat.{ℕ}
use Rattle.tsparql.specs.Strikes.{ascii}
use Rattle.tsparql.specs.Query.{Condition, Node, union}
use Rattle.tsparql.specs.Query as Q
use Rattle.grammar.specs.Tokens.{Token, mark}
use Rattle.grammar.specs.Tokens as T
use Rattle.grammar.specs.Grammar.{Variable, Slot, term, variable, Thousandths, plus, minus}
use Rattle.grammar.specs.Grammar.{Disjunction, conjuncts, either, Conjunction, single, both}
use Rattle.grammar.specs.Grammar.{Primary, negatable, equal, less, Negatable, bound, not, parens}
use Rattle.grammar.specs.Grammar.{Body, end, triple, triple_dot, element, element_dot, Query, tokens, Derives}
use Rattle.grammar.specs.Grammar.{Element, groups, optional, filter, trust_as, ensure, Unions, and_union}
use Rattle.grammar.specs.Grammar.{disjunction_tokens, conjunction_tokens, primary_tokens, negatable_tokens}
use Rattle.grammar.specs.Grammar.{body_tokens, element_tokens, unions_tokens}
use Rattle.grammar.specs.Grammar.{slot_token, variable_token, thousandths_token}
use Rattle.grammar.specs.Grammar as G
use Rattle.grammar.specs.Meaning.{slot_of, value_of, disjunction_of, conjunction_of, primary_of, negatable_of}
use Rattle.grammar.specs.Meaning.{Item, a_triple, a_group, a_filter, a_projection, a_bound}
use Rattle.grammar.specs.Meaning.{group_node, optional_item, items, item_of, united, meaning}
use Rattle.grammar.specs.Automaton.{Symbol, s_body, s_after_triple, s_after_element, s_after_group, s_slot, s_var, s_bound}
use Rattle.grammar.specs.Automaton.{s_primary, s_negatable, s_tail, s_lBrace, s_lParen, s_rParen, s_comma, s_aS, s_tRUST}
use Rattle.grammar.specs.TokenMeaning.{Value, Values, alone, semantics, node_of, text_node}
use Rattle.grammar.proofs.Reading.{read-derives}

-- ---- slots, bounds, fixed tokens

-- ts reads as the values vs of the stack σ
record Reads (ts : List Token) (σ : List Symbol) (vs : Values σ) : Type 0 where
  says : semantics ts σ ≡ some vs

reads-nil : Reads [] [] tt
unfolding semantics
reads-nil = record { says = refl }

module _ {σ : List Symbol} {vs : Values σ} {ts : List Token} where
  reads-slot : (s : Slot) → Reads ts σ vs → Reads (slot_token s ∷ ts) (s_slot ∷ σ) (slot_of s, vs)
  unfolding semantics
  reads-slot (term t) h = record { says = rw h.says }
  reads-slot (variable v) h = record { says = rw h.says }

  reads-var : (v : Variable) → Reads ts σ vs → Reads (variable_token v ∷ ts) (s_var ∷ σ) (v.name, vs)
  unfolding semantics
  reads-var v h = record { says = rw h.says }

  reads-bound : (x : Thousandths) → Reads ts σ vs → Reads (thousandths_token x ∷ ts) (s_bound ∷ σ) (value_of x, vs)
  unfolding semantics
  reads-bound (plus n l) h = record { says = rw h.says }
  reads-bound (minus n l m) h = record { says = rw h.says }

  reads-LBRACE : Reads ts σ vs → Reads (mark T.LBRACE ∷ ts) (s_lBrace ∷ σ) (tt, vs)
  unfolding semantics ascii
  reads-LBRACE h = record { says = rw h.says }

  reads-LPAREN : Reads ts σ vs → Reads (mark T.LPAREN ∷ ts) (s_lParen ∷ σ) (tt, vs)
  unfolding semantics ascii
  reads-LPAREN h = record { says = rw h.says }

  reads-RPAREN : Reads ts σ vs → Reads (mark T.RPAREN ∷ ts) (s_rParen ∷ σ) (tt, vs)
  unfolding semantics ascii
  reads-RPAREN h = record { says = rw h.says }

  reads-COMMA : Reads ts σ vs → Reads (mark T.COMMA ∷ ts) (s_comma ∷ σ) (tt, vs)
  unfolding semantics ascii
  reads-COMMA h = record { says = rw h.says }

  reads-AS : Reads ts σ vs → Reads (mark T.AS ∷ ts) (s_aS ∷ σ) (tt, vs)
  unfolding semantics ascii
  reads-AS h = record { says = rw h.says }

  reads-TRUST : Reads ts σ vs → Reads (mark T.TRUST ∷ ts) (s_tRUST ∷ σ) (tt, vs)
  unfolding semantics ascii
  reads-TRUST h = record { says = rw h.says }

-- ---- conditions

-- what or joins before the last conjunction, and that conjunction
before : Disjunction → Condition → Condition
before (conjuncts c) x = x
before (either d c) x = Q.disjunction (disjunction_of d) x

last : Disjunction → Condition
last (conjuncts c) = conjunction_of c
last (either d c) = conjunction_of c

before_last : (d : Disjunction) → before d (last d) ≡ disjunction_of d
unfolding before last disjunction_of
before_last (conjuncts c) = refl
before_last (either d c) = refl

primary-negatable : (n : Negatable) → negatable_of n ≡ primary_of (negatable n)
unfolding primary_of
primary-negatable n = refl

negatable-not : (n : Negatable) → Q.negation (negatable_of n) ≡ negatable_of (not n)
unfolding negatable_of
negatable-not n = refl

negatable-parens : (d : Disjunction) → disjunction_of d ≡ negatable_of (parens d)
unfolding negatable_of
negatable-parens d = refl

module _ {σ : List Symbol} {vs : Values σ} {ts : List Token} where
  recast : {X : Symbol} {x y : Value X} → Reads ts (X ∷ σ) (x, vs) → x ≡ y → Reads ts (X ∷ σ) (y, vs)
  recast {X} h e = subst (λ (z : Value X). Reads ts (X ∷ σ) (z, vs)) e h

  reads-equal : (v : Variable) (s : Slot) → Reads ts σ vs → Reads (primary_tokens (equal v s) ts) (s_primary ∷ σ) (primary_of (equal v s), vs)
  unfolding semantics ascii primary_of
  reads-equal v (term t) h = record { says = rw h.says }
  reads-equal v (variable w) h = record { says = rw h.says }

  reads-less : (v w : Variable) → Reads ts σ vs → Reads (primary_tokens (less v w) ts) (s_primary ∷ σ) (primary_of (less v w), vs)
  unfolding semantics ascii primary_of
  reads-less v w h = record { says = rw h.says }

  reads-BOUND : (v : Variable) → Reads ts σ vs → Reads (negatable_tokens (bound v) ts) (s_negatable ∷ σ) (negatable_of (bound v), vs)
  unfolding semantics ascii negatable_of
  reads-BOUND v h = record { says = rw h.says }

  reads-NOT : {c : Condition} → Reads ts (s_negatable ∷ σ) (c, vs) → Reads (mark T.NOT ∷ ts) (s_negatable ∷ σ) (Q.negation c, vs)
  unfolding semantics ascii
  reads-NOT h = record { says = rw h.says }

  reads-parens : {c : Condition} {f : Value s_tail} → Reads ts (s_primary ∷ s_tail ∷ σ) (c, (f, vs))
      → Reads (mark T.LPAREN ∷ ts) (s_negatable ∷ σ) (f alone c, vs)
  unfolding semantics ascii
  reads-parens h = record { says = rw h.says }

  -- tails: after a condition and, or, a closing parenthesis
  reads-AND : {c : Condition} {f : Value s_tail} → Reads ts (s_primary ∷ s_tail ∷ σ) (c, (f, vs))
      → Reads (mark T.AND ∷ ts) (s_tail ∷ σ) ((λ g x. f g (Q.conjunction x c)), vs)
  unfolding semantics ascii
  reads-AND h = record { says = rw h.says }

  reads-OR : {c : Condition} {f : Value s_tail} → Reads ts (s_primary ∷ s_tail ∷ σ) (c, (f, vs))
      → Reads (mark T.OR ∷ ts) (s_tail ∷ σ) ((λ g x. f (Q.disjunction (g x)) c), vs)
  unfolding semantics ascii
  reads-OR h = record { says = rw h.says }

  reads-closed : Reads ts σ vs → Reads (mark T.RPAREN ∷ ts) (s_tail ∷ σ) ((λ g x. g x), vs)
  unfolding semantics ascii
  reads-closed h = record { says = rw h.says }

as-primary : {σ : List Symbol} {vs : Values σ} (ts : List Token) (n : Negatable) {c : Condition}
    → Reads (negatable_tokens n ts) (s_negatable ∷ σ) (c, vs) → Reads (negatable_tokens n ts) (s_primary ∷ σ) (c, vs)
unfolding semantics ascii
as-primary ts (bound v) h = record { says = h.says }
as-primary ts (not n) h = record { says = h.says }
as-primary ts (parens d) h = record { says = h.says }

-- ts reads as a primary and a tail, which together mean c, and a tail f after it
record ReadsConjunction (σ : List Symbol) (ts : List Token) (vs : Values σ) (f : Value s_tail) (c : Condition) : Type 0 where
  first : Condition
  tail : Value s_tail
  reads : Reads ts (s_primary ∷ s_tail ∷ σ) (first, (tail, vs))
  means : (g : Condition → Condition) → tail g first ≡ f g c

-- the same for d
record ReadsDisjunction (σ : List Symbol) (ts : List Token) (vs : Values σ) (f : Value s_tail) (d : Disjunction) : Type 0 where
  first : Condition
  tail : Value s_tail
  reads : Reads ts (s_primary ∷ s_tail ∷ σ) (first, (tail, vs))
  means : tail alone first ≡ f (before d) (last d)

module _ {σ : List Symbol} {vs : Values σ} {ts : List Token} {f : Value s_tail} where
  conjunction-single : (p : Primary) → Reads ts (s_primary ∷ s_tail ∷ σ) (primary_of p, (f, vs))
      → ReadsConjunction σ ts vs f (conjunction_of (single p))
  unfolding conjunction_of
  conjunction-single p h = record { first = primary_of p; tail = f; reads = h; means = λ g. refl }

  conjunction-both : (c : Conjunction) (p : Primary)
      → ReadsConjunction σ ts vs (λ g x. f g (Q.conjunction x (primary_of p))) (conjunction_of c)
      → ReadsConjunction σ ts vs f (conjunction_of (both c p))
  unfolding conjunction_of
  conjunction-both c p r = record { first = r.first; tail = r.tail; reads = r.reads; means = r.means }

  disjunction-conjuncts : (c : Conjunction) → ReadsConjunction σ ts vs f (conjunction_of c) → ReadsDisjunction σ ts vs f (conjuncts c)
  unfolding before last
  disjunction-conjuncts c r = record { first = r.first; tail = r.tail; reads = r.reads; means = r.means alone }

  disjunction-either : {us : List Token} (d : Disjunction) (c : Conjunction) (r : ReadsConjunction σ us vs f (conjunction_of c))
      → ReadsDisjunction σ ts vs (λ g x. r.tail (Q.disjunction (g x)) r.first) d → ReadsDisjunction σ ts vs f (either d c)
  unfolding before last
  disjunction-either d c r s =
      record {
        first = s.first;
        tail = s.tail;
        reads = s.reads;
        means =
            s.means ∙ r.means (Q.disjunction (before d (last d)))
            ∙ ap (λ (x : Condition). f (Q.disjunction x) (conjunction_of c)) (before_last d);
      }

mutual
  reads-disjunction : (d : Disjunction) {σ : List Symbol} {vs : Values σ} {ts : List Token} {f : Value s_tail}
      → Reads ts (s_tail ∷ σ) (f, vs) → ReadsDisjunction σ (disjunction_tokens d ts) vs f d
  reads-disjunction (conjuncts c) h = disjunction-conjuncts c (reads-conjunction c h)
  reads-disjunction (either d c) h =
      let r = reads-conjunction c h in
      disjunction-either d c r (reads-disjunction d (reads-OR r.reads))

  reads-conjunction : (c : Conjunction) {σ : List Symbol} {vs : Values σ} {ts : List Token} {f : Value s_tail}
      → Reads ts (s_tail ∷ σ) (f, vs) → ReadsConjunction σ (conjunction_tokens c ts) vs f (conjunction_of c)
  reads-conjunction (single p) h = conjunction-single p (reads-primary p h)
  reads-conjunction (both c p) h = conjunction-both c p (reads-conjunction c (reads-AND (reads-primary p h)))

  reads-primary : (p : Primary) {σ : List Symbol} {vs : Values σ} {ts : List Token}
      → Reads ts σ vs → Reads (primary_tokens p ts) (s_primary ∷ σ) (primary_of p, vs)
  reads-primary (negatable n) {ts = ts} h = recast (as-primary ts n (reads-negatable n h)) (primary-negatable n)
  reads-primary (equal v s) h = reads-equal v s h
  reads-primary (less v w) h = reads-less v w h

  reads-negatable : (n : Negatable) {σ : List Symbol} {vs : Values σ} {ts : List Token}
      → Reads ts σ vs → Reads (negatable_tokens n ts) (s_negatable ∷ σ) (negatable_of n, vs)
  reads-negatable (bound v) h = reads-BOUND v h
  reads-negatable (not n) h = recast (reads-NOT (reads-negatable n h)) (negatable-not n)
  reads-negatable (parens d) h =
      let r = reads-disjunction d (reads-closed h) in
      recast (reads-parens r.reads) (r.means ∙ before_last d ∙ negatable-parens d)

-- ---- groups

-- where a body may stand: after a brace or a dot, after an element, after a group, after a triple
data Place : Bool → Type 0 where
  at_body at_element at_group : Place true
  at_triple : Place false

abbrev symbol_at : {a : Bool} → Place a → Symbol
symbol_at at_body = s_body
symbol_at at_element = s_after_element
symbol_at at_group = s_after_group
symbol_at at_triple = s_after_triple

-- the value of a body's items there
abbrev value_at : {a : Bool} (P : Place a) → List Item → Value (symbol_at P)
value_at at_body is = is
value_at at_element is = is
value_at at_group is = λ n. a_group n ∷ is
value_at at_triple is = is

abbrev ReadsAt : {a : Bool} → Place a → List Token → (σ : List Symbol) → List Item → Values σ → Type 0
ReadsAt P ts σ is vs = Reads ts (symbol_at P ∷ σ) (value_at P is, vs)

module _ {σ : List Symbol} {vs : Values σ} {ts : List Token} where
  reads_end : {a : Bool} (P : Place a) → Reads ts σ vs → ReadsAt P (mark T.RBRACE ∷ ts) σ ([]) vs
  unfolding semantics ascii
  reads_end at_body h = record { says = rw h.says }
  reads_end at_element h = record { says = rw h.says }
  reads_end at_group h = record { says = rw h.says }
  reads_end at_triple h = record { says = rw h.says }

module _ {σ : List Symbol} {vs : Values σ} {ts : List Token} {is : List Item} where
  dot-element : Reads ts (s_body ∷ σ) (is, vs) → Reads (mark T.DOT ∷ ts) (s_after_element ∷ σ) (is, vs)
  unfolding semantics ascii
  dot-element h = record { says = rw h.says }

  dot-triple : Reads ts (s_body ∷ σ) (is, vs) → Reads (mark T.DOT ∷ ts) (s_after_triple ∷ σ) (is, vs)
  unfolding semantics ascii
  dot-triple h = record { says = rw h.says }

  dot-group : Reads ts (s_body ∷ σ) (is, vs) → Reads (mark T.DOT ∷ ts) (s_after_group ∷ σ) ((λ n. a_group n ∷ is), vs)
  unfolding semantics ascii
  dot-group h = record { says = rw h.says }

  reads-triple : (P : Place true) (x : Slot) {y z : Q.Slot} → Reads ts (s_slot ∷ s_slot ∷ s_after_triple ∷ σ) (y, (z, (is, vs)))
      → ReadsAt P (slot_token x ∷ ts) σ (a_triple (record { subject = slot_of x; predicate = y; object = z }) ∷ is) vs
  unfolding semantics
  reads-triple at_body (term t) h = record { says = rw h.says }
  reads-triple at_body (variable v) h = record { says = rw h.says }
  reads-triple at_element (term t) h = record { says = rw h.says }
  reads-triple at_element (variable v) h = record { says = rw h.says }
  reads-triple at_group (term t) h = record { says = rw h.says }
  reads-triple at_group (variable v) h = record { says = rw h.says }

  reads-groups : {a : Bool} (P : Place a) {f : Node → List Item} → Reads ts (s_body ∷ s_after_group ∷ σ) (is, (f, vs))
      → ReadsAt P (mark T.LBRACE ∷ ts) σ (f (group_node is)) vs
  unfolding semantics ascii
  reads-groups at_body h = record { says = rw h.says }
  reads-groups at_element h = record { says = rw h.says }
  reads-groups at_group h = record { says = rw h.says }
  reads-groups at_triple h = record { says = rw h.says }

  reads-OPTIONAL : {a : Bool} (P : Place a) {js : List Item} → Reads ts (s_lBrace ∷ s_body ∷ s_after_element ∷ σ) (tt, (js, (is, vs)))
      → ReadsAt P (mark T.OPTIONAL ∷ ts) σ (optional_item js ∷ is) vs
  unfolding semantics ascii
  reads-OPTIONAL at_body h = record { says = rw h.says }
  reads-OPTIONAL at_element h = record { says = rw h.says }
  reads-OPTIONAL at_group h = record { says = rw h.says }
  reads-OPTIONAL at_triple h = record { says = rw h.says }

  reads-FILTER : {a : Bool} (P : Place a) {c : Condition} {f : Value s_tail}
      → Reads ts (s_lParen ∷ s_primary ∷ s_tail ∷ s_after_element ∷ σ) (tt, (c, (f, (is, vs))))
      → ReadsAt P (mark T.FILTER ∷ ts) σ (a_filter (f alone c) ∷ is) vs
  unfolding semantics ascii
  reads-FILTER at_body h = record { says = rw h.says }
  reads-FILTER at_element h = record { says = rw h.says }
  reads-FILTER at_group h = record { says = rw h.says }
  reads-FILTER at_triple h = record { says = rw h.says }

  reads-TRUST-AS : {a : Bool} (P : Place a) {v : ℕ} → Reads ts (s_aS ∷ s_var ∷ s_after_element ∷ σ) (tt, (v, (is, vs)))
      → ReadsAt P (mark T.TRUST ∷ ts) σ (a_projection v ∷ is) vs
  unfolding semantics ascii
  reads-TRUST-AS at_body h = record { says = rw h.says }
  reads-TRUST-AS at_element h = record { says = rw h.says }
  reads-TRUST-AS at_group h = record { says = rw h.says }
  reads-TRUST-AS at_triple h = record { says = rw h.says }

  reads-ENSURE : {a : Bool} (P : Place a) {l u : ℕ}
      → Reads ts (s_tRUST ∷ s_lParen ∷ s_bound ∷ s_comma ∷ s_bound ∷ s_rParen ∷ s_after_element ∷ σ) (tt, (tt, (l, (tt, (u, (tt, (is, vs)))))))
      → ReadsAt P (mark T.ENSURE ∷ ts) σ (a_bound l u ∷ is) vs
  unfolding semantics ascii
  reads-ENSURE at_body h = record { says = rw h.says }
  reads-ENSURE at_element h = record { says = rw h.says }
  reads-ENSURE at_group h = record { says = rw h.says }
  reads-ENSURE at_triple h = record { says = rw h.says }

  reads-UNION : {f : Node → List Item} → Reads ts (s_lBrace ∷ s_body ∷ s_after_group ∷ σ) (tt, (is, (f, vs)))
      → Reads (mark T.UNION ∷ ts) (s_after_group ∷ σ) ((λ n. f (union n (group_node is))), vs)
  unfolding semantics ascii
  reads-UNION h = record { says = rw h.says }

-- ts reads as the groups us, united with the node before them, and the items after
record ReadsUnions (ts : List Token) (σ : List Symbol) (is : List Item) (vs : Values σ) (us : Unions) : Type 0 where
  value : Node → List Item
  reads : Reads ts (s_after_group ∷ σ) (value, vs)
  means : (n : Node) → value n ≡ a_group (united n us) ∷ is

module _ {ts : List Token} {σ : List Symbol} {is : List Item} {vs : Values σ} where
  unions-none : Reads ts (s_after_group ∷ σ) ((λ n. a_group n ∷ is), vs) → ReadsUnions ts σ is vs G.none
  unfolding united
  unions-none h = record { value = _; reads = h; means = λ n. refl }

  unions-more : {us : List Token} (g : Body true) (w : Unions) (r : ReadsUnions us σ is vs w)
      → Reads ts (s_after_group ∷ σ) ((λ n. r.value (union n (group_node (items g)))), vs) → ReadsUnions ts σ is vs (and_union g w)
  unfolding united
  unions-more g w r h = record { value = _; reads = h; means = λ n. r.means (union n (group_node (items g))) }

-- what follows an element, read after an element and after a group
record After (ts : List Token) (σ : List Symbol) (is : List Item) (vs : Values σ) : Type 0 where
  element : Reads ts (s_after_element ∷ σ) (is, vs)
  group : Reads ts (s_after_group ∷ σ) ((λ n. a_group n ∷ is), vs)

mutual
  unfolding items

  reads-body : {a : Bool} (b : Body a) (P : Place a) {σ : List Symbol} {vs : Values σ} {ts : List Token}
      → Reads ts σ vs → ReadsAt P (body_tokens b ts) σ (items b) vs
  reads-body end P h = reads_end P h
  reads-body (triple x y z b) P h = reads-triple P x (reads-slot y (reads-slot z (reads-body b at_triple h)))
  reads-body (triple_dot x y z b) P h = reads-triple P x (reads-slot y (reads-slot z (dot-triple (reads-body b at_body h))))
  reads-body (element e b) P h = reads-element e P (record { element = reads-body b at_element h; group = reads-body b at_group h })
  reads-body (element_dot e b) P h =
      let r = reads-body b at_body h in
      reads-element e P (record { element = dot-element r; group = dot-group r })

  reads-element : (e : Element) {a : Bool} (P : Place a) {σ : List Symbol} {vs : Values σ} {ts : List Token} {is : List Item}
      → After ts σ is vs → ReadsAt P (element_tokens e ts) σ (item_of e ∷ is) vs
  reads-element (groups g us) P h =
      let r = reads-unions us h in
      recast (reads-groups P (reads-body g at_body r.reads)) (ap (value_at P) (r.means (group_node (items g))))
  reads-element (optional g) P h = reads-OPTIONAL P (reads-LBRACE (reads-body g at_body h.element))
  reads-element (filter d) P {is = is} h =
      let r = reads-disjunction d (reads-closed h.element) in
      recast (reads-FILTER P (reads-LPAREN r.reads)) (ap (λ (c : Condition). value_at P (a_filter c ∷ is)) (r.means ∙ before_last d))
  reads-element (trust_as v) P h = reads-TRUST-AS P (reads-AS (reads-var v h.element))
  reads-element (ensure l u) P h =
      reads-ENSURE P (reads-TRUST (reads-LPAREN (reads-bound l (reads-COMMA (reads-bound u (reads-RPAREN h.element))))))

  reads-unions : (us : Unions) {σ : List Symbol} {vs : Values σ} {ts : List Token} {is : List Item}
      → After ts σ is vs → ReadsUnions (unions_tokens us ts) σ is vs us
  reads-unions G.none h = unions-none h.group
  reads-unions (and_union g us) h =
      let r = reads-unions us h in
      unions-more g us r (reads-UNION (reads-LBRACE (reads-body g at_body r.reads)))

-- ---- texts

-- the tokens of a query have its meaning
pub node_of-tokens : (q : Query) → node_of (tokens q) ≡ some (meaning q)
unfolding node_of meaning
node_of-tokens q =
    let h : Reads (tokens q) (s_lBrace ∷ s_body ∷ []) (tt, (items q, tt)) = reads-LBRACE (reads-body q at_body reads-nil) in
    rw h.says

-- a text with a derivation has its meaning, and so only one
pub text_node-derives : (q : Query) (s : List ℕ) → Derives q s → text_node s ≡ some (meaning q)
unfolding text_node
text_node-derives q s d = rw (read-derives q s d, text_node) (node_of-tokens q)

pub meaning-unique : (p q : Query) (s : List ℕ) → Derives p s → Derives q s → meaning p ≡ meaning q
meaning-unique p q s x y = some-injective _ _ (sym (text_node-derives p s x) ∙ text_node-derives q s y)
