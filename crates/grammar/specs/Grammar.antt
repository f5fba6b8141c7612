-- The grammar of typed queries (request 6): derivations as trees, the tokens of a tree, and which texts have a derivation. No reader is
-- mentioned here. The rules stand in front of their trees: numbers carry their ranges; of the other rules each case is a constructor, but
-- Query and Group are a body, and Triple is part of one. `rest` is what follows the tokens of a part. The dots are those of SPARQL (2008),
-- whose own rules are in Sparql. Assumes nothing.
use Rattle.std.specs.Prelude.{Bool, true, false, List, [], ◌∷◌, ◌++◌, ℕ, ◌≤◌}
use Rattle.grammar.specs.Tokens.{LBRACE, RBRACE, LPAREN, RPAREN, DOT, COMMA, EQUAL, LESS, NOT, AND, OR}
use Rattle.grammar.specs.Tokens.{OPTIONAL, UNION, FILTER, BOUND, TRUST, AS, ENSURE}
use Rattle.grammar.specs.Tokens.{Token, mark, var, num, neg, Written}

-- ---- numbers

-- Variable ::= '?0' | .. | '?15'
pub record Variable : Type 0 where
  pub name : ℕ
  pub small : name ≤ 15

-- Term ::= '1' | .. | '1048575'
pub record Term : Type 0 where
  pub number : ℕ
  pub least : 1 ≤ number
  pub most : number ≤ 1048575

-- Slot ::= Term | Variable
pub data Slot : Type 0 where
  term : Term → Slot
  variable : Variable → Slot

-- Thousandths ::= '0' | .. | '1000' | '-1' | .. | '-1000'
pub data Thousandths : Type 0 where
  plus : (n : ℕ) → n ≤ 1000 → Thousandths
  minus : (n : ℕ) → 1 ≤ n → n ≤ 1000 → Thousandths

-- ---- conditions

-- Disjunction ::= Conjunction | Disjunction '||' Conjunction
-- Conjunction ::= Primary | Conjunction '&&' Primary
-- Primary     ::= Negatable | Variable '=' Slot | Variable '<' Variable
-- Negatable   ::= 'BOUND' '(' Variable ')' | '!' Negatable | '(' Disjunction ')'
mutual
  pub data Disjunction : Type 0 where
    conjuncts : Conjunction → Disjunction
    either : Disjunction → Conjunction → Disjunction

  pub data Conjunction : Type 0 where
    single : Primary → Conjunction
    both : Conjunction → Primary → Conjunction

  pub data Primary : Type 0 where
    negatable : Negatable → Primary
    equal : Variable → Slot → Primary
    less : Variable → Variable → Primary

  pub data Negatable : Type 0 where
    bound : Variable → Negatable
    not : Negatable → Negatable
    parens : Disjunction → Negatable

-- ---- groups

-- Query   ::= Group
-- Group   ::= '{' Body
-- Body    ::= '}' | Triple Bare | Triple '.' Body | Element Body | Element '.' Body
-- Bare    ::= '}' | Element Body | Element '.' Body                                        (a body that begins with no triple)
-- Triple  ::= Slot Slot Slot
-- Element ::= Group ('UNION' Group)* | 'OPTIONAL' Group | 'FILTER' '(' Disjunction ')'
--           | 'TRUST' 'AS' Variable | 'ENSURE' 'TRUST' '(' Thousandths ',' Thousandths ')'
mutual
  -- Body true is Body, Body false is Bare
  pub data Body : Bool → Type 0 where
    end : {a : Bool} → Body a
    triple : Slot → Slot → Slot → Body false → Body true
    triple_dot : Slot → Slot → Slot → Body true → Body true
    element : {a : Bool} → Element → Body true → Body a
    element_dot : {a : Bool} → Element → Body true → Body a

  pub data Element : Type 0 where
    groups : Body true → Unions → Element
    optional : Body true → Element
    filter : Disjunction → Element
    trust_as : Variable → Element
    ensure : Thousandths → Thousandths → Element

  pub data Unions : Type 0 where
    none : Unions
    and_union : Body true → Unions → Unions

-- ---- the tokens

abbrev pub variable_token : Variable → Token
variable_token v = var v.name

abbrev pub slot_token : Slot → Token
slot_token (term t) = num t.number
slot_token (variable v) = variable_token v

abbrev pub thousandths_token : Thousandths → Token
thousandths_token (plus n h) = num n
thousandths_token (minus n l h) = neg n

abbrev mutual
  pub disjunction_tokens : Disjunction → List Token → List Token
  disjunction_tokens (conjuncts c) rest = conjunction_tokens c rest
  disjunction_tokens (either d c) rest = disjunction_tokens d (mark OR ∷ conjunction_tokens c rest)

  pub conjunction_tokens : Conjunction → List Token → List Token
  conjunction_tokens (single p) rest = primary_tokens p rest
  conjunction_tokens (both c p) rest = conjunction_tokens c (mark AND ∷ primary_tokens p rest)

  pub primary_tokens : Primary → List Token → List Token
  primary_tokens (negatable n) rest = negatable_tokens n rest
  primary_tokens (equal v s) rest = variable_token v ∷ mark EQUAL ∷ slot_token s ∷ rest
  primary_tokens (less v w) rest = variable_token v ∷ mark LESS ∷ variable_token w ∷ rest

  pub negatable_tokens : Negatable → List Token → List Token
  negatable_tokens (bound v) rest = mark BOUND ∷ mark LPAREN ∷ variable_token v ∷ mark RPAREN ∷ rest
  negatable_tokens (not n) rest = mark NOT ∷ negatable_tokens n rest
  negatable_tokens (parens d) rest = mark LPAREN ∷ disjunction_tokens d (mark RPAREN ∷ rest)

abbrev mutual
  pub body_tokens : {a : Bool} → Body a → List Token → List Token
  body_tokens end rest = mark RBRACE ∷ rest
  body_tokens (triple x y z b) rest = slot_token x ∷ slot_token y ∷ slot_token z ∷ body_tokens b rest
  body_tokens (triple_dot x y z b) rest = slot_token x ∷ slot_token y ∷ slot_token z ∷ mark DOT ∷ body_tokens b rest
  body_tokens (element e b) rest = element_tokens e (body_tokens b rest)
  body_tokens (element_dot e b) rest = element_tokens e (mark DOT ∷ body_tokens b rest)

  pub element_tokens : Element → List Token → List Token
  element_tokens (groups g us) rest = mark LBRACE ∷ body_tokens g (unions_tokens us rest)
  element_tokens (optional g) rest = mark OPTIONAL ∷ mark LBRACE ∷ body_tokens g rest
  element_tokens (filter d) rest = mark FILTER ∷ mark LPAREN ∷ disjunction_tokens d (mark RPAREN ∷ rest)
  element_tokens (trust_as v) rest = mark TRUST ∷ mark AS ∷ variable_token v ∷ rest
  element_tokens (ensure l u) rest =
      mark ENSURE ∷ mark TRUST ∷ mark LPAREN ∷ thousandths_token l ∷ mark COMMA ∷ thousandths_token u ∷ mark RPAREN ∷ rest

  pub unions_tokens : Unions → List Token → List Token
  unions_tokens none rest = rest
  unions_tokens (and_union g us) rest = mark UNION ∷ mark LBRACE ∷ body_tokens g (unions_tokens us rest)

-- ---- derivations

-- a typed query is one group
abbrev pub Query : Type 0
Query = Body true

abbrev pub tokens : Query → List Token
tokens q = mark LBRACE ∷ body_tokens q []

-- q is a derivation of the text s
abbrev pub Derives : Query → List ℕ → Type 0
Derives q s = Written false (tokens q) s

-- no derivation of s
abbrev pub Underivable : List ℕ → Type 0
Underivable s = (q : Query) → Derives q s → ⊥

-- some text with a derivation begins with p
abbrev pub Viable : List ℕ → Type 0
Viable p = (q : Query) × (more : List ℕ) × Derives q (p ++ more)
