-- Facts of the machine's table, each computed: every fixed token has a first byte, which is no white space, digit, '?' or '-', and by which
-- it is found among those that may come with it; and what is found is one of them (`find-mem`). Assumes nothing.
use mathlib.Core.Path.{◌≡◌, refl}
use mathlib.Core.Bool.{false}
use mathlib.Core.List.{List, [], ◌∷◌, Memᴰ}
use mathlib.Core.Option.{Option, none, some}
use Prim.Native.Nat.{ℕ}
use lib.Dec.{eqb}
use lib.ListN.{get_or, drop}
use borrow.Author.Tests.{eqb-true}
use Rattle.tsparql.specs.Lists.{Every}
use Rattle.tsparql.specs.Strikes.{ascii}
use Rattle.grammar.specs.Tokens.{is_space}
use Rattle.grammar.specs.Automaton.{Symbol, s_body, s_after_triple, s_after_element, s_after_group, s_slot, s_var, s_bound}
use Rattle.grammar.specs.Automaton.{s_primary, s_negatable, s_relation, s_tail, s_lBrace, s_lParen, s_rParen, s_comma, s_aS, s_tRUST}
use Rattle.grammar.specs.Automaton.{Entry, marks, digit, find}
use Rattle.grammar.proofs.Basics.{cond_cases, every-member}

-- an entry has a first byte
abbrev pub Begins : Entry → Type 0
Begins e = e.0 ≡ get_or e.0 0 0 ∷ drop 1 e.0

pub record MarkFact (X : Symbol) (e : Entry) : Type 0 where
  pub begins : Begins e
  pub no_space : is_space (get_or e.0 0 0) ≡ false
  pub no_query : eqb (get_or e.0 0 0) 63 ≡ false
  pub no_minus : eqb (get_or e.0 0 0) 45 ≡ false
  pub no_digit : digit (get_or e.0 0 0) ≡ false
  pub found : find (get_or e.0 0 0) (marks X) ≡ some e

mark_facts : (X : Symbol) → Every (MarkFact X) (marks X)
unfolding ascii
mark_facts s_body = search
mark_facts s_after_triple = search
mark_facts s_after_element = search
mark_facts s_after_group = search
mark_facts s_slot = tt
mark_facts s_var = tt
mark_facts s_bound = tt
mark_facts s_primary = search
mark_facts s_negatable = search
mark_facts s_relation = search
mark_facts s_tail = search
mark_facts s_lBrace = search
mark_facts s_lParen = search
mark_facts s_rParen = search
mark_facts s_comma = search
mark_facts s_aS = search
mark_facts s_tRUST = search

pub fact_of : (X : Symbol) {e : Entry} → Memᴰ e (marks X) → MarkFact X e
fact_of X m = every-member (MarkFact X) (marks X) (mark_facts X) m

-- what is found has the first byte, and is among the entries
pub find-mem :
    (b : ℕ) (es : List Entry) (P : Option Entry → Type 0) → P none
    → ((e : Entry) → Memᴰ e es → b ≡ get_or e.0 0 0 → P (some e)) → P (find b es)
find-mem b [] P n f = n
find-mem b (e ∷ es) P n f =
    cond_cases P (eqb b (get_or e.0 0 0)) (λ q. f e (Memᴰ.head refl) (eqb-true b _ q))
    (λ q. find-mem b es P n (λ x m. f x (Memᴰ.tail m)))
