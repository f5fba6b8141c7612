-- Where the brackets of a tree's tokens close: a condition, an element and a union open and close alike, and a body closes one brace
-- (`behind-condition`, `behind-body`). Assumes nothing.
use mathlib.Core.Path.{◌≡◌, refl, ◌∙◌}
use mathlib.Core.Bool.{Bool}
use mathlib.Core.List.{List, ◌∷◌}
use Prim.Native.Nat.{ℕ, suc, ◌+◌, ◌≤◌}
use native.Mathlib.Omega.{arith}
use borrow.Author.Tests.{ne_eqb}
use Rattle.tsparql.specs.Strikes.{ascii}
use Rattle.grammar.specs.Tokens.{Token, mark, AND, OR, RPAREN, DOT}
use Rattle.grammar.specs.Grammar.{Slot, term, variable, Thousandths, plus, minus, Variable}
use Rattle.grammar.specs.Grammar.{Disjunction, conjuncts, either, Conjunction, single, both}
use Rattle.grammar.specs.Grammar.{Primary, negatable, equal, less, Negatable, bound, not, parens}
use Rattle.grammar.specs.Grammar.{disjunction_tokens, conjunction_tokens, primary_tokens, negatable_tokens}
use Rattle.grammar.specs.Grammar.{Body, end, triple, triple_dot, element, element_dot, body_tokens}
use Rattle.grammar.specs.Grammar.{Element, groups, optional, filter, trust_as, ensure, element_tokens}
use Rattle.grammar.specs.Grammar.{Unions, none, and_union, unions_tokens}
use Rattle.words.specs.Words.{words, slot_word, thousandths_word}
use Rattle.words.specs.Links.{behind_of}
use Rattle.words.proofs.LinkLaws.{behind-none}

-- ---- words that are no brackets

pub slot-large : (x : Slot) → 256 ≤ slot_word x
slot-large (term t) = omega arith
slot-large (variable v) = omega arith

thousandths-large : (x : Thousandths) → 256 ≤ thousandths_word x
thousandths-large (plus n h) = omega arith
thousandths-large (minus n l h) = omega arith

behind-large : (d w : ℕ) (ws : List ℕ) → 256 ≤ w → behind_of (suc d) (w ∷ ws) ≡ behind_of (suc d) ws
unfolding behind_of
behind-large d w ws h =
    rw (ne_eqb w 125 (λ e. omega arith), ne_eqb w 41 (λ e. omega arith), ne_eqb w 123 (λ e. omega arith), ne_eqb w 40 (λ e. omega arith))

behind-slot : (d : ℕ) (x : Slot) (ws : List ℕ) → behind_of (suc d) (slot_word x ∷ ws) ≡ behind_of (suc d) ws
behind-slot d x ws = behind-large d (slot_word x) ws (slot-large x)

behind-variable : (d : ℕ) (v : Variable) (ws : List ℕ) → behind_of (suc d) ((256 + v.name) ∷ ws) ≡ behind_of (suc d) ws
behind-variable d v ws = behind-large d (256 + v.name) ws (omega arith)

behind-thousandths : (d : ℕ) (x : Thousandths) (ws : List ℕ) → behind_of (suc d) (thousandths_word x ∷ ws) ≡ behind_of (suc d) ws
behind-thousandths d x ws = behind-large d (thousandths_word x) ws (thousandths-large x)

-- ---- conditions

mutual
  unfolding behind_of ascii

  over-disjunction : (x : Disjunction) (d : ℕ) (k : List Token)
      → behind_of (suc d) (words (disjunction_tokens x k)) ≡ behind_of (suc d) (words k)
  over-disjunction (conjuncts c) d k = over-conjunction c d k
  over-disjunction (either x c) d k = over-disjunction x d (mark OR ∷ conjunction_tokens c k) ∙ over-conjunction c d k

  over-conjunction : (c : Conjunction) (d : ℕ) (k : List Token)
      → behind_of (suc d) (words (conjunction_tokens c k)) ≡ behind_of (suc d) (words k)
  over-conjunction (single p) d k = over-primary p d k
  over-conjunction (both c p) d k = over-conjunction c d (mark AND ∷ primary_tokens p k) ∙ over-primary p d k

  over-primary : (p : Primary) (d : ℕ) (k : List Token) → behind_of (suc d) (words (primary_tokens p k)) ≡ behind_of (suc d) (words k)
  over-primary (negatable n) d k = over-negatable n d k
  over-primary (equal v s) d k = behind-variable d v (61 ∷ slot_word s ∷ words k) ∙ behind-slot d s (words k)
  over-primary (less v w) d k = behind-variable d v (60 ∷ (256 + w.name) ∷ words k) ∙ behind-variable d w (words k)

  over-negatable : (n : Negatable) (d : ℕ) (k : List Token) → behind_of (suc d) (words (negatable_tokens n k)) ≡ behind_of (suc d) (words k)
  over-negatable (bound v) d k = behind-variable (suc d) v (41 ∷ words k)
  over-negatable (not n) d k = over-negatable n d k
  over-negatable (parens x) d k = over-disjunction x (suc d) (mark RPAREN ∷ k)

-- ---- bodies

over-triple : (d : ℕ) (x y z : Slot) (ws : List ℕ) → behind_of (suc d) (slot_word x ∷ slot_word y ∷ slot_word z ∷ ws) ≡ behind_of (suc d) ws
over-triple d x y z ws = behind-slot d x (slot_word y ∷ slot_word z ∷ ws) ∙ behind-slot d y (slot_word z ∷ ws) ∙ behind-slot d z ws

mutual
  unfolding behind_of ascii

  over-body : {a : Bool} (b : Body a) (d : ℕ) (k : List Token) → behind_of (suc d) (words (body_tokens b k)) ≡ behind_of d (words k)
  over-body end d k = refl
  over-body (triple x y z b) d k = over-triple d x y z (words (body_tokens b k)) ∙ over-body b d k
  over-body (triple_dot x y z b) d k = over-triple d x y z (46 ∷ words (body_tokens b k)) ∙ over-body b d k
  over-body (element e b) d k = over-element e d (body_tokens b k) ∙ over-body b d k
  over-body (element_dot e b) d k = over-element e d (mark DOT ∷ body_tokens b k) ∙ over-body b d k

  over-element : (e : Element) (d : ℕ) (k : List Token) → behind_of (suc d) (words (element_tokens e k)) ≡ behind_of (suc d) (words k)
  over-element (groups g us) d k = over-body g (suc d) (unions_tokens us k) ∙ over-unions us d k
  over-element (optional g) d k = over-body g (suc d) k
  over-element (filter x) d k = over-disjunction x (suc d) (mark RPAREN ∷ k)
  over-element (trust_as v) d k = behind-variable d v (words k)
  over-element (ensure l u) d k =
      behind-thousandths (suc d) l (44 ∷ thousandths_word u ∷ 41 ∷ words k) ∙ behind-thousandths (suc d) u (41 ∷ words k)

  over-unions : (us : Unions) (d : ℕ) (k : List Token) → behind_of (suc d) (words (unions_tokens us k)) ≡ behind_of (suc d) (words k)
  over-unions none d k = refl
  over-unions (and_union g us) d k = over-body g (suc d) (unions_tokens us k) ∙ over-unions us d k

-- ---- behind the bracket that is open

pub behind-condition : (x : Disjunction) (rest : List Token) → behind_of 1 (words (disjunction_tokens x (mark RPAREN ∷ rest))) ≡ words rest
unfolding behind_of ascii
behind-condition x rest = over-disjunction x 0 (mark RPAREN ∷ rest) ∙ behind-none (words rest)

pub behind-body : {a : Bool} (b : Body a) (rest : List Token) → behind_of 1 (words (body_tokens b rest)) ≡ words rest
behind-body b rest = over-body b 0 rest ∙ behind-none (words rest)
