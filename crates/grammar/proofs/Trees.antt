-- What the machine's table accepts from the stack of a query is the tokens of a tree (`accepted-query`): every symbol of a stack stands for
-- a tree (`Val`), and a token with the trees behind it makes one. Assumes nothing.
use mathlib.Core.Path.{◌≡◌, refl, ap, ◌∙◌, subst}
use mathlib.Core.Bool.{Bool, true, false, false≢true}
use mathlib.Core.List.{List, [], ◌∷◌, ◌++◌}
use mathlib.Core.Option.{Option, none, some}
use mathlib.Core.Logic.{◌⊎◌, inl, inr}
use Rattle.tsparql.specs.Lists.{Every}
use Rattle.tsparql.proofs.ListLaws.{every-weaken}
use Rattle.grammar.specs.Tokens.{Token, mark}
use Rattle.grammar.specs.Tokens as T
use Rattle.grammar.specs.Grammar.{Variable, Term, Slot, term, variable, Thousandths, plus, minus}
use Rattle.grammar.specs.Grammar.{Disjunction, conjuncts, either, Conjunction, single, both}
use Rattle.grammar.specs.Grammar.{Primary, negatable, equal, less, Negatable, bound, not, parens}
use Rattle.grammar.specs.Grammar.{Body, end, triple, triple_dot, element, element_dot, Query, tokens}
use Rattle.grammar.specs.Grammar.{Element, groups, optional, filter, trust_as, ensure, Unions, and_union}
use Rattle.grammar.specs.Grammar.{disjunction_tokens, conjunction_tokens, primary_tokens, negatable_tokens}
use Rattle.grammar.specs.Grammar.{body_tokens, element_tokens, unions_tokens}
use Rattle.grammar.specs.Grammar.{slot_token, variable_token, thousandths_token}
use Rattle.grammar.specs.Grammar as G
use Rattle.grammar.specs.Automaton.{Symbol, s_body, s_after_triple, s_after_element, s_after_group, s_slot, s_var, s_bound}
use Rattle.grammar.specs.Automaton.{s_primary, s_negatable, s_relation, s_tail, s_lBrace, s_lParen, s_rParen, s_comma, s_aS, s_tRUST}
use Rattle.grammar.specs.Automaton.{Entry, elements, negatables, marks, vars, terms, is_bound}
use Rattle.grammar.proofs.Basics.{every-member}
use Rattle.grammar.proofs.Accepts.{Step, by_mark, by_var, by_term, by_plus, by_minus, Accepts, over, then}

-- ---- conditions

-- what follows a primary, up to the closing parenthesis
data Tail : Type 0 where
  closed : Tail
  and_then : Primary → Tail → Tail
  or_then : Primary → Tail → Tail

abbrev tail_tokens : Tail → List Token → List Token
tail_tokens closed k = mark T.RPAREN ∷ k
tail_tokens (and_then p t) k = mark T.AND ∷ primary_tokens p (tail_tokens t k)
tail_tokens (or_then p t) k = mark T.OR ∷ primary_tokens p (tail_tokens t k)

attached : (Conjunction → Disjunction) → Conjunction → Tail → Disjunction
attached f c closed = f c
attached f c (and_then p t) = attached f (both c p) t
attached f c (or_then p t) = attached (either (f c)) (single p) t

attached-tokens : (f : Conjunction → Disjunction) (pre : List Token → List Token)
    → ((c : Conjunction) (k : List Token) → disjunction_tokens (f c) k ≡ pre (conjunction_tokens c k))
    → (c : Conjunction) (t : Tail) (k : List Token)
    → disjunction_tokens (attached f c t) (mark T.RPAREN ∷ k) ≡ pre (conjunction_tokens c (tail_tokens t k))
unfolding attached
attached-tokens f pre h c closed k = h c (mark T.RPAREN ∷ k)
attached-tokens f pre h c (and_then p t) k = attached-tokens f pre h (both c p) t k
attached-tokens f pre h c (or_then p t) k =
    attached-tokens (either (f c)) (λ (l : List Token). disjunction_tokens (f c) (mark T.OR ∷ l)) (λ d l. refl) (single p) t k
    ∙ h c (mark T.OR ∷ primary_tokens p (tail_tokens t k))

in_parens : Primary → Tail → Disjunction
in_parens p t = attached conjuncts (single p) t

in_parens-tokens : (p : Primary) (t : Tail) (k : List Token)
    → disjunction_tokens (in_parens p t) (mark T.RPAREN ∷ k) ≡ primary_tokens p (tail_tokens t k)
unfolding in_parens
in_parens-tokens p t k = attached-tokens conjuncts (λ (l : List Token). l) (λ c l. refl) (single p) t k

-- ---- the trees of a stack

-- after a triple: a dot and a body, or a body that begins with no triple
abbrev AfterTriple : Type 0
AfterTriple = Body true ⊎ Body false

abbrev AfterElement : Type 0
AfterElement = Body true ⊎ Body true

abbrev dotted : {m : Bool} → Body true ⊎ Body m → List Token → List Token
dotted (inl b) k = mark T.DOT ∷ body_tokens b k
dotted (inr b) k = body_tokens b k

-- the tree that a symbol stands for
abbrev Val : Symbol → Type 0
Val s_body = Body true
Val s_after_triple = AfterTriple
Val s_after_element = AfterElement
Val s_after_group = Unions × AfterElement
Val s_slot = Slot
Val s_var = Variable
Val s_bound = Thousandths
Val s_primary = Primary
Val s_negatable = Negatable
Val s_relation = Slot ⊎ Variable
Val s_tail = Tail
Val s_lBrace = Unit {0}
Val s_lParen = Unit {0}
Val s_rParen = Unit {0}
Val s_comma = Unit {0}
Val s_aS = Unit {0}
Val s_tRUST = Unit {0}

abbrev relation : Slot ⊎ Variable → List Token → List Token
relation (inl s) k = mark T.EQUAL ∷ slot_token s ∷ k
relation (inr v) k = mark T.LESS ∷ variable_token v ∷ k

abbrev yield : (X : Symbol) → Val X → List Token → List Token
yield s_body b k = body_tokens b k
yield s_after_triple x k = dotted x k
yield s_after_element x k = dotted x k
yield s_after_group x k = unions_tokens x.0 (dotted x.1 k)
yield s_slot s k = slot_token s ∷ k
yield s_var v k = variable_token v ∷ k
yield s_bound x k = thousandths_token x ∷ k
yield s_primary p k = primary_tokens p k
yield s_negatable n k = negatable_tokens n k
yield s_relation r k = relation r k
yield s_tail t k = tail_tokens t k
yield s_lBrace x k = mark T.LBRACE ∷ k
yield s_lParen x k = mark T.LPAREN ∷ k
yield s_rParen x k = mark T.RPAREN ∷ k
yield s_comma x k = mark T.COMMA ∷ k
yield s_aS x k = mark T.AS ∷ k
yield s_tRUST x k = mark T.TRUST ∷ k

abbrev Vals : List Symbol → Type 0
Vals [] = Unit {0}
Vals (X ∷ σ) = Val X × Vals σ

abbrev yields : (σ : List Symbol) → Vals σ → List Token
yields [] vs = []
yields (X ∷ σ) vs = yield X vs.0 (yields σ vs.1)

-- ---- a token makes a tree

-- a tree for X, with trees for the rest, whose tokens are ts
abbrev Built : Symbol → List Symbol → List Token → Type 0
Built X σ ts = (v : Val X) × (vs : Vals σ) × (yield X v (yields σ vs) ≡ ts)

abbrev BuiltBody : Bool → List Symbol → List Token → Type 0
BuiltBody m σ ts = (b : Body m) × (vs : Vals σ) × (body_tokens b (yields σ vs) ≡ ts)

abbrev FromMark : Symbol → List Symbol → Entry → Type 0
FromMark X σ e = (vs : Vals (e.1 ++ σ)) → Built X σ (mark e.0 ∷ yields (e.1 ++ σ) vs)

abbrev FromMarkBody : Bool → List Symbol → Entry → Type 0
FromMarkBody m σ e = (vs : Vals (e.1 ++ σ)) → BuiltBody m σ (mark e.0 ∷ yields (e.1 ++ σ) vs)

put : {m : Bool} → Element → AfterElement → Body m
put e (inl b) = element_dot e b
put e (inr b) = element e b

put-tokens : (m : Bool) (e : Element) (x : AfterElement) (k : List Token) → body_tokens (put {m = m} e x) k ≡ element_tokens e (dotted x k)
unfolding put
put-tokens m e (inl b) k = refl
put-tokens m e (inr b) k = refl

elements_built : (m : Bool) (σ : List Symbol) → Every (FromMarkBody m σ) elements
elements_built m σ = (
  (λ vs. (end, vs, refl)),
  (
    (λ vs. (put (groups vs.0 vs.1.0.0) vs.1.0.1, vs.1.1, put-tokens m _ vs.1.0.1 _)),
    (
      (λ vs. (put (optional vs.1.0) vs.1.1.0, vs.1.1.1, put-tokens m _ vs.1.1.0 _)),
      (
        (λ vs. (
          put (filter (in_parens vs.1.0 vs.1.1.0)) vs.1.1.1.0,
          vs.1.1.1.1,
          put-tokens m _ vs.1.1.1.0 _
              ∙ ap (λ (l : List Token). mark T.FILTER ∷ mark T.LPAREN ∷ l) (in_parens-tokens vs.1.0 vs.1.1.0 _),
        )),
        (
          (λ vs. (put (trust_as vs.1.0) vs.1.1.0, vs.1.1.1, put-tokens m _ vs.1.1.0 _)),
          (
            (λ vs. (
              put (ensure vs.1.1.0 vs.1.1.1.1.0) vs.1.1.1.1.1.1.0,
              vs.1.1.1.1.1.1.1,
              put-tokens m _ vs.1.1.1.1.1.1.0 _,
            )),
            tt,
          ),
        ),
      ),
    ),
  ),
)

negatables_built : (σ : List Symbol) → Every (FromMark s_negatable σ) negatables
negatables_built σ = (
  (λ vs. (bound vs.1.0, vs.1.1.1, refl)),
  (
    (λ vs. (not vs.0, vs.1, refl)),
    (
      (λ vs. (
        parens (in_parens vs.0 vs.1.0),
        vs.1.1,
        ap (λ (l : List Token). mark T.LPAREN ∷ l) (in_parens-tokens vs.0 vs.1.0 _),
      )),
      tt,
    ),
  ),
)

marks_built : (X : Symbol) (σ : List Symbol) → Every (FromMark X σ) (marks X)
marks_built s_body σ = elements_built true σ
marks_built s_after_triple σ = (
  (λ vs. (inl vs.0, vs.1, refl)),
  every-weaken {P = FromMarkBody false σ} {Q = FromMark s_after_triple σ}
      (λ e h vs. let r = h vs in (inr r.0, r.1, r.2)) elements (elements_built false σ),
)
marks_built s_after_element σ = (
  (λ vs. (inl vs.0, vs.1, refl)),
  every-weaken {P = FromMarkBody true σ} {Q = FromMark s_after_element σ}
      (λ e h vs. let r = h vs in (inr r.0, r.1, r.2)) elements (elements_built true σ),
)
marks_built s_after_group σ = (
  (λ vs. ((and_union vs.1.0 vs.1.1.0.0, vs.1.1.0.1), vs.1.1.1, refl)),
  (
    (λ vs. ((G.none, inl vs.0), vs.1, refl)),
    every-weaken {P = FromMarkBody true σ} {Q = FromMark s_after_group σ}
        (λ e h vs. let r = h vs in ((G.none, inr r.0), r.1, r.2)) elements (elements_built true σ),
  ),
)
marks_built s_slot σ = tt
marks_built s_var σ = tt
marks_built s_bound σ = tt
marks_built s_primary σ =
    every-weaken {P = FromMark s_negatable σ} {Q = FromMark s_primary σ} (λ e h vs. let r = h vs in (negatable r.0, r.1, r.2)) negatables
    (negatables_built σ)
marks_built s_negatable σ = negatables_built σ
marks_built s_relation σ = ((λ vs. (inl vs.0, vs.1, refl)), ((λ vs. (inr vs.0, vs.1, refl)), tt))
marks_built s_tail σ = (
  (λ vs. (closed, vs, refl)),
  (
    (λ vs. (and_then vs.0 vs.1.0, vs.1.1, refl)),
    ((λ vs. (or_then vs.0 vs.1.0, vs.1.1, refl)), tt),
  ),
)
marks_built s_lBrace σ = ((λ vs. (tt, vs, refl)), tt)
marks_built s_lParen σ = ((λ vs. (tt, vs, refl)), tt)
marks_built s_rParen σ = ((λ vs. (tt, vs, refl)), tt)
marks_built s_comma σ = ((λ vs. (tt, vs, refl)), tt)
marks_built s_aS σ = ((λ vs. (tt, vs, refl)), tt)
marks_built s_tRUST σ = ((λ vs. (tt, vs, refl)), tt)

-- a variable or a term that begins a body
triple_of : Slot → Slot → AfterTriple → Slot → Body true
triple_of y z (inl b) x = triple_dot x y z b
triple_of y z (inr b) x = triple x y z b

triple_of-tokens : (x y z : Slot) (r : AfterTriple) (k : List Token)
    → body_tokens (triple_of y z r x) k ≡ slot_token x ∷ slot_token y ∷ slot_token z ∷ dotted r k
unfolding triple_of
triple_of-tokens x y z (inl b) k = refl
triple_of-tokens x y z (inr b) k = refl

slot_built : (X : Symbol) (σ : List Symbol) (s : Slot) (o : Option (List Symbol)) → Type 0
slot_built X σ s none = Unit {0}
slot_built X σ s (some α) = (vs : Vals (α ++ σ)) → Built X σ (slot_token s ∷ yields (α ++ σ) vs)

-- the body that a first slot and the values behind it begin
triple_built : (x : Slot) (σ : List Symbol) (vs : Vals (s_slot ∷ s_slot ∷ s_after_triple ∷ σ))
    → BuiltBody true σ (slot_token x ∷ yields (s_slot ∷ s_slot ∷ s_after_triple ∷ σ) vs)
triple_built x σ vs = (triple_of vs.0 vs.1.0 vs.1.1.0 x, vs.1.1.1, triple_of-tokens x _ _ vs.1.1.0 _)

vars_built : (X : Symbol) (σ : List Symbol) (v : Variable) → slot_built X σ (variable v) (vars X)
unfolding slot_built
vars_built s_body σ v = triple_built (variable v) σ
vars_built s_after_triple σ v = tt
vars_built s_after_element σ v = λ vs. let r = triple_built (variable v) σ vs in (inr r.0, r.1, r.2)
vars_built s_after_group σ v = λ vs. let r = triple_built (variable v) σ vs in ((G.none, inr r.0), r.1, r.2)
vars_built s_slot σ v = λ vs. (variable v, vs, refl)
vars_built s_var σ v = λ vs. (v, vs, refl)
vars_built s_bound σ v = tt
vars_built s_primary σ v = λ vs. (related v vs.0, vs.1, related-tokens v vs.0 _)
  where
    related : Variable → Slot ⊎ Variable → Primary
    related v (inl s) = equal v s
    related v (inr w) = less v w

    related-tokens : (v : Variable) (r : Slot ⊎ Variable) (k : List Token) → primary_tokens (related v r) k ≡ variable_token v ∷ relation r k
    related-tokens v (inl s) k = refl
    related-tokens v (inr w) k = refl
vars_built s_negatable σ v = tt
vars_built s_relation σ v = tt
vars_built s_tail σ v = tt
vars_built s_lBrace σ v = tt
vars_built s_lParen σ v = tt
vars_built s_rParen σ v = tt
vars_built s_comma σ v = tt
vars_built s_aS σ v = tt
vars_built s_tRUST σ v = tt

terms_built : (X : Symbol) (σ : List Symbol) (t : Term) → slot_built X σ (term t) (terms X)
unfolding slot_built
terms_built s_body σ t = triple_built (term t) σ
terms_built s_after_triple σ t = tt
terms_built s_after_element σ t = λ vs. let r = triple_built (term t) σ vs in (inr r.0, r.1, r.2)
terms_built s_after_group σ t = λ vs. let r = triple_built (term t) σ vs in ((G.none, inr r.0), r.1, r.2)
terms_built s_slot σ t = λ vs. (term t, vs, refl)
terms_built s_var σ t = tt
terms_built s_bound σ t = tt
terms_built s_primary σ t = tt
terms_built s_negatable σ t = tt
terms_built s_relation σ t = tt
terms_built s_tail σ t = tt
terms_built s_lBrace σ t = tt
terms_built s_lParen σ t = tt
terms_built s_rParen σ t = tt
terms_built s_comma σ t = tt
terms_built s_aS σ t = tt
terms_built s_tRUST σ t = tt

bounds_built : (X : Symbol) (σ : List Symbol) (x : Thousandths) → is_bound X ≡ true → (vs : Vals σ)
    → Built X σ (thousandths_token x ∷ yields σ vs)
bounds_built s_body σ x e vs = absurd (false≢true e)
bounds_built s_after_triple σ x e vs = absurd (false≢true e)
bounds_built s_after_element σ x e vs = absurd (false≢true e)
bounds_built s_after_group σ x e vs = absurd (false≢true e)
bounds_built s_slot σ x e vs = absurd (false≢true e)
bounds_built s_var σ x e vs = absurd (false≢true e)
bounds_built s_bound σ x e vs = (x, vs, refl)
bounds_built s_primary σ x e vs = absurd (false≢true e)
bounds_built s_negatable σ x e vs = absurd (false≢true e)
bounds_built s_relation σ x e vs = absurd (false≢true e)
bounds_built s_tail σ x e vs = absurd (false≢true e)
bounds_built s_lBrace σ x e vs = absurd (false≢true e)
bounds_built s_lParen σ x e vs = absurd (false≢true e)
bounds_built s_rParen σ x e vs = absurd (false≢true e)
bounds_built s_comma σ x e vs = absurd (false≢true e)
bounds_built s_aS σ x e vs = absurd (false≢true e)
bounds_built s_tRUST σ x e vs = absurd (false≢true e)

step_built : {X : Symbol} {t : Token} {α : List Symbol} (σ : List Symbol) → Step X t α → (vs : Vals (α ++ σ))
    → Built X σ (t ∷ yields (α ++ σ) vs)
unfolding slot_built
step_built {X} σ (by_mark w α h) vs = every-member (FromMark X σ) (marks X) (marks_built X σ) h vs
step_built {X} σ (by_var n h e) vs =
    let v : Variable = record { name = n; small = h } in
    subst (slot_built X σ (variable v)) e (vars_built X σ v) vs
step_built {X} σ (by_term n l h e f) vs =
    let t : Term = record { number = n; least = l; most = h } in
    subst (slot_built X σ (term t)) e (terms_built X σ t) vs
step_built {X} σ (by_plus n h e) vs = bounds_built X σ (plus n h) e vs
step_built {X} σ (by_minus n l h e) vs = bounds_built X σ (minus n l h) e vs

-- ---- what is accepted

-- what is accepted from a stack is the tokens of trees for it
accepted-trees : {σ : List Symbol} {ts : List Token} → Accepts σ ts → (vs : Vals σ) × (yields σ vs ≡ ts)
accepted-trees over = (tt, refl)
accepted-trees {σ = X ∷ σ} (then {t = t} s a) =
    let r = accepted-trees a in
    let b = step_built σ s r.0 in
    ((b.0, b.1), b.2 ∙ ap (λ (l : List Token). t ∷ l) r.1)

pub accepted-query : {ts : List Token} → Accepts (s_lBrace ∷ s_body ∷ []) ts → (q : Query) × (tokens q ≡ ts)
accepted-query a = let r = accepted-trees a in (r.0.1.0, r.1)
