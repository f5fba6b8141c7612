-- The meaning of the tokens that the machine accepts, computed along its stack: each symbol that has still to come has a value, made of the
-- values of what comes for it. That the tokens of a tree get the tree's meaning is proved (proofs/Means), so nothing here has to be
-- believed. Groups: values; actions; the meaning. Assumes nothing.
use Rattle.std.specs.Prelude.{List, [], ◌∷◌, ◌++◌, map, ℕ, ◌+◌, ◌-◌, get_or}
use Rattle.std.proofs.Math.Option
use Rattle.std.proofs.Math.Option.{Option, none, some}
use Rattle.tsparql.specs.Query.{a_term, a_variable, Condition, Node, union}
use Rattle.tsparql.specs.Query as Q
use Rattle.grammar.specs.Tokens.{Token, mark, var, num, neg}
use Rattle.grammar.specs.Tokens as T
use Rattle.grammar.specs.Meaning.{Item, a_triple, a_group, a_filter, a_projection, a_bound, group_node, optional_item}
use Rattle.grammar.specs.Automaton.{Symbol, s_body, s_after_triple, s_after_element, s_after_group, s_slot, s_var, s_bound}
use Rattle.grammar.specs.Automaton.{s_primary, s_negatable, s_relation, s_tail, s_lBrace, s_lParen, s_rParen, s_comma, s_aS, s_tRUST}
use Rattle.grammar.specs.Automaton.{find, accepted, fault, read}

-- ---- values

-- after a group: the items, for the node so far; of a tail: the condition, for what or joins before the last conjunction, and for that
abbrev pub Value : Symbol → Type 0
Value s_body = List Item
Value s_after_triple = List Item
Value s_after_element = List Item
Value s_after_group = Node → List Item
Value s_slot = Q.Slot
Value s_var = ℕ
Value s_bound = ℕ
Value s_primary = Condition
Value s_negatable = Condition
Value s_relation = ℕ → Condition
Value s_tail = (Condition → Condition) → Condition → Condition
Value s_lBrace = Unit {0}
Value s_lParen = Unit {0}
Value s_rParen = Unit {0}
Value s_comma = Unit {0}
Value s_aS = Unit {0}
Value s_tRUST = Unit {0}

-- a value for each symbol, in pairs: v.0 is the first, v.1.0 the second
abbrev pub Values : List Symbol → Type 0
Values [] = Unit {0}
Values (X ∷ σ) = Value X × Values σ

abbrev pub divided : (α σ : List Symbol) → Values (α ++ σ) → Values α × Values σ
divided [] σ vs = (tt, vs)
divided (X ∷ α) σ vs = let r = divided α σ vs.1 in ((vs.0, r.0), r.1)

-- ---- actions

-- what has to come after a token, and the value made of it
abbrev pub Action : Type 0 → Type 0
Action A = (α : List Symbol) × (Values α → A)

-- for each token that may come: a variable or a number, a number below 0, fixed tokens
pub record Actions (A : Type 0) : Type 0 where
  pub slot : Q.Slot → Option (Action A)
  pub minus : ℕ → Option (Action A)
  pub marks : List (List ℕ × Action A)

abbrev pub never : {A B : Type 0} → A → Option B
never x = none

-- only fixed tokens
abbrev pub fixed : {A : Type 0} → List (List ℕ × Action A) → Actions A
fixed ms = record { slot = never; minus = never; marks = ms }

-- one fixed token, and no value
abbrev pub only : List ℕ → Actions (Unit {0})
only w = fixed ((w, ([], λ v. tt)) ∷ [])

-- the number of a slot
abbrev pub number : Q.Slot → ℕ
number (a_term a) = a
number (a_variable w) = w

abbrev pub related : ℕ → Q.Slot → Condition
related x (a_term a) = Q.is_term x a
related x (a_variable w) = Q.same x w

-- no or before
abbrev pub alone : Condition → Condition
alone c = c

abbrev pub element_actions : List (List ℕ × Action (List Item))
element_actions =
    (T.RBRACE, ([], λ v. [])) ∷
    (T.LBRACE, (s_body ∷ s_after_group ∷ [], λ v. v.1.0 (group_node v.0))) ∷
    (T.OPTIONAL, (s_lBrace ∷ s_body ∷ s_after_element ∷ [], λ v. optional_item v.1.0 ∷ v.1.1.0)) ∷
    (T.FILTER, (s_lParen ∷ s_primary ∷ s_tail ∷ s_after_element ∷ [], λ v. a_filter (v.1.1.0 alone v.1.0) ∷ v.1.1.1.0)) ∷
    (T.TRUST, (s_aS ∷ s_var ∷ s_after_element ∷ [], λ v. a_projection v.1.0 ∷ v.1.1.0)) ∷ (
      T.ENSURE,
      (
        s_tRUST ∷ s_lParen ∷ s_bound ∷ s_comma ∷ s_bound ∷ s_rParen ∷ s_after_element ∷ [],
        λ v. a_bound v.1.1.0 v.1.1.1.1.0 ∷ v.1.1.1.1.1.1.0,
      ),
    ) ∷ []

abbrev pub dot_action : List ℕ × Action (List Item)
dot_action = (T.DOT, (s_body ∷ [], λ v. v.0))

-- a triple, by its first slot
abbrev pub triple_action : Q.Slot → Action (List Item)
triple_action x = (
  s_slot ∷ s_slot ∷ s_after_triple ∷ [],
  λ v. a_triple (record { subject = x; predicate = v.0; object = v.1.0 }) ∷ v.1.1.0,
)

abbrev pub or_triple : List (List ℕ × Action (List Item)) → Actions (List Item)
or_triple ms = record { slot = λ x. some (triple_action x); minus = never; marks = ms }

-- after a group no UNION follows
abbrev pub closing : Action (List Item) → Action (Node → List Item)
closing a = (a.0, λ v n. a_group n ∷ a.1 v)

abbrev pub union_action : List ℕ × Action (Node → List Item)
union_action = (T.UNION, (s_lBrace ∷ s_body ∷ s_after_group ∷ [], λ v n. v.1.1.0 (union n (group_node v.1.0))))

abbrev pub negatable_actions : List (List ℕ × Action Condition)
negatable_actions =
    (T.BOUND, (s_lParen ∷ s_var ∷ s_rParen ∷ [], λ v. Q.bound v.1.0)) ∷
    (T.NOT, (s_negatable ∷ [], λ v. Q.negation v.0)) ∷
    (T.LPAREN, (s_primary ∷ s_tail ∷ [], λ v. v.1.0 alone v.0)) ∷ []

abbrev pub actions : (X : Symbol) → Actions (Value X)
actions s_body = or_triple element_actions
actions s_after_triple = fixed (dot_action ∷ element_actions)
actions s_after_element = or_triple (dot_action ∷ element_actions)
actions s_after_group =
    record {
      slot = λ x. some (closing (triple_action x));
      minus = never;
      marks = union_action ∷ map (λ m. (m.0, closing m.1)) (dot_action ∷ element_actions);
    }
actions s_slot = record { slot = λ x. some ([], λ v. x); minus = never; marks = [] }
actions s_var = record { slot = λ x. some ([], λ v. number x); minus = never; marks = [] }
actions s_bound = record { slot = λ x. some ([], λ v. 1000 + number x); minus = λ n. some ([], λ v. 1000 - n); marks = [] }
actions s_primary = record { slot = λ x. some (s_relation ∷ [], λ v. v.0 (number x)); minus = never; marks = negatable_actions }
actions s_negatable = fixed negatable_actions
actions s_relation =
    fixed ((T.EQUAL, (s_slot ∷ [], λ v x. related x v.0)) ∷ (T.LESS, (s_var ∷ [], λ v x. Q.less x v.0)) ∷ [])
actions s_tail =
    fixed
    ((T.RPAREN, ([], λ v f c. f c)) ∷
    (T.AND, (s_primary ∷ s_tail ∷ [], λ v f c. v.1.0 f (Q.conjunction c v.0))) ∷
    (T.OR, (s_primary ∷ s_tail ∷ [], λ v f c. v.1.0 (Q.disjunction (f c)) v.0)) ∷ [])
actions s_lBrace = only T.LBRACE
actions s_lParen = only T.LPAREN
actions s_rParen = only T.RPAREN
actions s_comma = only T.COMMA
actions s_aS = only T.AS
actions s_tRUST = only T.TRUST

-- ---- the meaning

-- what a token that comes for a symbol does, fixed ones by their first bytes
abbrev pub act : (X : Symbol) → Token → Option (Action (Value X))
act X (mark w) = Option.map (λ m. m.1) (find (get_or w 0 0) (actions X).marks)
act X (var n) = (actions X).slot (a_variable n)
act X (num n) = (actions X).slot (a_term n)
act X (neg n) = (actions X).minus n

abbrev pub apply : {A : Type 0} (σ : List Symbol) (a : Action A) → Values (a.0 ++ σ) → A × Values σ
apply σ a vs = let r = divided a.0 σ vs in (a.1 r.0, r.1)

-- the values of a stack, by the tokens that come for it
unfoldable pub semantics : (ts : List Token) (σ : List Symbol) → Option (Values σ)
semantics [] [] = some tt
semantics [] (X ∷ σ) = none
semantics (t ∷ ts) [] = none
semantics (t ∷ ts) (X ∷ σ) = elim (act X t) [ none ↦ none | some a ↦ Option.map (apply σ a) (semantics ts (a.0 ++ σ)) ]

unfoldable pub node_of : List Token → Option Node
node_of ts = Option.map (λ v. group_node v.1.0) (semantics ts (s_lBrace ∷ s_body ∷ []))

-- the node of a text, or none
unfoldable pub text_node : List ℕ → Option Node
text_node s = elim (read s) [ accepted ts ↦ node_of ts | fault n ↦ none ]
