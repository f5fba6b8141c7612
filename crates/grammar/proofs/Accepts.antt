-- What the machine's table accepts (`Step`, `Accepts`), and that it accepts the tokens of every tree (`tokens-accepted`). That it accepts
-- nothing else is in Trees. Assumes nothing.
use mathlib.Core.Path.{◌≡◌, refl}
use mathlib.Core.Bool.{Bool, true, false, false≢true}
use mathlib.Core.List.{List, [], ◌∷◌, ◌++◌, Memᴰ}
use mathlib.Core.Option.{some, none-ne-some}
use Prim.Native.Nat.{ℕ, ◌≤◌}
use Rattle.grammar.specs.Tokens.{Token, mark, var, num, neg}
use Rattle.grammar.specs.Tokens as T
use Rattle.grammar.specs.Grammar.{Variable, Slot, term, variable, Thousandths, plus, minus}
use Rattle.grammar.specs.Grammar.{Disjunction, conjuncts, either, Conjunction, single, both}
use Rattle.grammar.specs.Grammar.{Primary, negatable, equal, less, Negatable, bound, not, parens}
use Rattle.grammar.specs.Grammar.{Body, end, triple, triple_dot, element, element_dot, Query, tokens}
use Rattle.grammar.specs.Grammar.{Element, groups, optional, filter, trust_as, ensure, Unions, and_union}
use Rattle.grammar.specs.Grammar.{disjunction_tokens, conjunction_tokens, primary_tokens, negatable_tokens}
use Rattle.grammar.specs.Grammar.{body_tokens, element_tokens, unions_tokens}
use Rattle.grammar.specs.Grammar.{slot_token, variable_token, thousandths_token}
use Rattle.grammar.specs.Grammar as G
use Rattle.grammar.specs.Automaton.{Symbol, s_body, s_after_triple, s_after_element, s_after_group, s_slot, s_var, s_bound}
use Rattle.grammar.specs.Automaton.{s_primary, s_negatable, s_tail, s_lBrace, s_lParen, s_rParen, s_comma, s_aS, s_tRUST}
use Rattle.grammar.specs.Automaton.{Entry, elements, marks, vars, terms, is_bound}

-- ---- what the table accepts

pub data Step : Symbol → Token → List Symbol → Type 0 where
  by_mark : {X : Symbol} (w : List ℕ) (α : List Symbol) → Memᴰ (w, α) (marks X) → Step X (mark w) α
  by_var : {X : Symbol} {α : List Symbol} (n : ℕ) → n ≤ 15 → vars X ≡ some α → Step X (var n) α
  by_term : {X : Symbol} {α : List Symbol} (n : ℕ) → 1 ≤ n → n ≤ 1048575 → terms X ≡ some α → is_bound X ≡ false → Step X (num n) α
  by_plus : {X : Symbol} (n : ℕ) → n ≤ 1000 → is_bound X ≡ true → Step X (num n) []
  by_minus : {X : Symbol} (n : ℕ) → 1 ≤ n → n ≤ 1000 → is_bound X ≡ true → Step X (neg n) []

pub data Accepts : List Symbol → List Token → Type 0 where
  over : Accepts [] []
  then : {X : Symbol} {σ α : List Symbol} {t : Token} {ts : List Token} → Step X t α → Accepts (α ++ σ) ts → Accepts (X ∷ σ) (t ∷ ts)

-- ---- the tokens of a tree are accepted

of_variable : {σ : List Symbol} {k : List Token} (v : Variable) → Accepts σ k → Accepts (s_var ∷ σ) (variable_token v ∷ k)
of_variable v a = then (by_var v.name v.small refl) a

of_slot : {σ : List Symbol} {k : List Token} (s : Slot) → Accepts σ k → Accepts (s_slot ∷ σ) (slot_token s ∷ k)
of_slot (term t) a = then (by_term t.number t.least t.most refl refl) a
of_slot (variable v) a = then (by_var v.name v.small refl) a

of_thousandths : {σ : List Symbol} {k : List Token} (x : Thousandths) → Accepts σ k → Accepts (s_bound ∷ σ) (thousandths_token x ∷ k)
of_thousandths (plus n h) a = then (by_plus n h refl) a
of_thousandths (minus n l h) a = then (by_minus n l h refl) a

-- the fixed tokens at the places of their lists
pub at0 : {x : Entry} {xs : List Entry} → Memᴰ x (x ∷ xs)
at0 = Memᴰ.head refl

pub at1 : {x y : Entry} {xs : List Entry} → Memᴰ x (y ∷ x ∷ xs)
at1 = Memᴰ.tail at0

pub at2 : {x y z : Entry} {xs : List Entry} → Memᴰ x (y ∷ z ∷ x ∷ xs)
at2 = Memᴰ.tail at1

-- what may stand for one symbol may stand for a wider one
as_primary : {σ : List Symbol} {k : List Token} → Accepts (s_negatable ∷ σ) k → Accepts (s_primary ∷ σ) k
as_primary (then (by_mark w α h) a) = then (by_mark w α h) a
as_primary (then (by_var n h e) a) = absurd (none-ne-some _ e)
as_primary (then (by_term n l h e f) a) = absurd (none-ne-some _ e)
as_primary (then (by_plus n h e) a) = absurd (false≢true e)
as_primary (then (by_minus n l h e) a) = absurd (false≢true e)

after_element : {σ : List Symbol} {k : List Token} → Accepts (s_body ∷ σ) k → Accepts (s_after_element ∷ σ) k
after_element (then (by_mark w α h) a) = then (by_mark w α (Memᴰ.tail h)) a
after_element (then (by_var n h e) a) = then (by_var n h e) a
after_element (then (by_term n l h e f) a) = then (by_term n l h e refl) a
after_element (then (by_plus n h e) a) = absurd (false≢true e)
after_element (then (by_minus n l h e) a) = absurd (false≢true e)

after_group : {σ : List Symbol} {k : List Token} → Accepts (s_after_element ∷ σ) k → Accepts (s_after_group ∷ σ) k
after_group (then (by_mark w α h) a) = then (by_mark w α (Memᴰ.tail h)) a
after_group (then (by_var n h e) a) = then (by_var n h e) a
after_group (then (by_term n l h e f) a) = then (by_term n l h e refl) a
after_group (then (by_plus n h e) a) = absurd (false≢true e)
after_group (then (by_minus n l h e) a) = absurd (false≢true e)

mutual
  of_disjunction : (d : Disjunction) {σ : List Symbol} {k : List Token}
      → Accepts (s_tail ∷ σ) k → Accepts (s_primary ∷ s_tail ∷ σ) (disjunction_tokens d k)
  of_disjunction (conjuncts c) a = of_conjunction c a
  of_disjunction (either d c) a = of_disjunction d (then (by_mark _ _ at2) (of_conjunction c a))

  of_conjunction : (c : Conjunction) {σ : List Symbol} {k : List Token}
      → Accepts (s_tail ∷ σ) k → Accepts (s_primary ∷ s_tail ∷ σ) (conjunction_tokens c k)
  of_conjunction (single p) a = of_primary p a
  of_conjunction (both c p) a = of_conjunction c (then (by_mark _ _ at1) (of_primary p a))

  of_primary : (p : Primary) {σ : List Symbol} {k : List Token} → Accepts σ k → Accepts (s_primary ∷ σ) (primary_tokens p k)
  of_primary (negatable n) a = as_primary (of_negatable n a)
  of_primary (equal v s) a = then (by_var v.name v.small refl) (then (by_mark _ _ at0) (of_slot s a))
  of_primary (less v w) a = then (by_var v.name v.small refl) (then (by_mark _ _ at1) (of_variable w a))

  of_negatable : (n : Negatable) {σ : List Symbol} {k : List Token} → Accepts σ k → Accepts (s_negatable ∷ σ) (negatable_tokens n k)
  of_negatable (bound v) a = then (by_mark _ _ at0) (then (by_mark _ _ at0) (of_variable v (then (by_mark _ _ at0) a)))
  of_negatable (not n) a = then (by_mark _ _ at1) (of_negatable n a)
  of_negatable (parens d) a = then (by_mark _ _ at2) (of_disjunction d (then (by_mark _ _ at0) a))

-- the symbol of a body
abbrev sym_of : Bool → Symbol
sym_of true = s_body
sym_of false = s_after_triple

in_elements : (m : Bool) {e : Entry} → Memᴰ e elements → Memᴰ e (marks (sym_of m))
in_elements true h = h
in_elements false h = Memᴰ.tail h

pub at3 : {x y z w : Entry} {xs : List Entry} → Memᴰ x (y ∷ z ∷ w ∷ x ∷ xs)
at3 = Memᴰ.tail at2

pub at4 : {x y z w v : Entry} {xs : List Entry} → Memᴰ x (y ∷ z ∷ w ∷ v ∷ x ∷ xs)
at4 = Memᴰ.tail at3

pub at5 : {x y z w v u : Entry} {xs : List Entry} → Memᴰ x (y ∷ z ∷ w ∷ v ∷ u ∷ x ∷ xs)
at5 = Memᴰ.tail at4

of_triple : (x y z : Slot) {σ : List Symbol} {k : List Token}
    → Accepts (s_after_triple ∷ σ) k → Accepts (s_body ∷ σ) (slot_token x ∷ slot_token y ∷ slot_token z ∷ k)
of_triple (term t) y z a = then (by_term t.number t.least t.most refl refl) (of_slot y (of_slot z a))
of_triple (variable v) y z a = then (by_var v.name v.small refl) (of_slot y (of_slot z a))

mutual
  of_body : {m : Bool} (b : Body m) {σ : List Symbol} {k : List Token} → Accepts σ k → Accepts (sym_of m ∷ σ) (body_tokens b k)
  of_body {m} end a = then (by_mark T.RBRACE [] (in_elements m at0)) a
  of_body (triple x y z b) a = of_triple x y z (of_body b a)
  of_body (triple_dot x y z b) a = of_triple x y z (then (by_mark T.DOT (s_body ∷ []) at0) (of_body b a))
  of_body {m} (element e b) a = of_element e m (after_element (of_body b a))
  of_body {m} (element_dot e b) a = of_element e m (then (by_mark T.DOT (s_body ∷ []) at0) (of_body b a))

  of_element : (e : Element) (m : Bool) {σ : List Symbol} {k : List Token}
      → Accepts (s_after_element ∷ σ) k → Accepts (sym_of m ∷ σ) (element_tokens e k)
  of_element (groups g us) m a = then (by_mark T.LBRACE (s_body ∷ s_after_group ∷ []) (in_elements m at1)) (of_body g (of_unions us a))
  of_element (optional g) m a =
      then (by_mark T.OPTIONAL (s_lBrace ∷ s_body ∷ s_after_element ∷ []) (in_elements m at2)) (then (by_mark _ _ at0) (of_body g a))
  of_element (filter d) m a =
      then (by_mark T.FILTER (s_lParen ∷ s_primary ∷ s_tail ∷ s_after_element ∷ []) (in_elements m at3))
      (then (by_mark _ _ at0) (of_disjunction d (then (by_mark _ _ at0) a)))
  of_element (trust_as v) m a =
      then (by_mark T.TRUST (s_aS ∷ s_var ∷ s_after_element ∷ []) (in_elements m at4)) (then (by_mark _ _ at0) (of_variable v a))
  of_element (ensure l u) m a =
      then (by_mark T.ENSURE (s_tRUST ∷ s_lParen ∷ s_bound ∷ s_comma ∷ s_bound ∷ s_rParen ∷ s_after_element ∷ []) (in_elements m at5))
      (then (by_mark _ _ at0) (then (by_mark _ _ at0) (of_thousandths l (then (by_mark _ _ at0) (of_thousandths u (then (by_mark _ _ at0) a))))))

  of_unions : (us : Unions) {σ : List Symbol} {k : List Token}
      → Accepts (s_after_element ∷ σ) k → Accepts (s_after_group ∷ σ) (unions_tokens us k)
  of_unions G.none a = after_group a
  of_unions (and_union g us) a =
      then (by_mark T.UNION (s_lBrace ∷ s_body ∷ s_after_group ∷ []) at0) (then (by_mark _ _ at0) (of_body g (of_unions us a)))

-- complete: the tokens of a query are accepted
pub tokens-accepted : (q : Query) → Accepts (s_lBrace ∷ s_body ∷ []) (tokens q)
tokens-accepted q = then (by_mark _ _ at0) (of_body q over)
