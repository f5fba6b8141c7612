-- The automaton's tables, whose facts are computed at every symbol at once (`alike`): the codes of the symbols, and the productions and
-- fixed tokens that they allow. Assumes nothing.
use mathlib.Core.Path.{◌≡◌, refl, sym, ap, ◌∙◌}
use mathlib.Core.Bool.{true}
use mathlib.Core.List.{List, [], ◌∷◌, map, Memᴰ}
use mathlib.Core.Option.{Option, none, some}
use Prim.Native.Nat.{ℕ, ◌+◌, ◌*◌, ◌-◌, ◌≤◌}
use native.Mathlib.Omega.{arith}
use lib.Dec.{leb}
use lib.ListN.{length, get_or}
use borrow.Author.Tests.{leb-true}
use Rattle.tsparql.specs.Strikes.{ascii}
use Rattle.grammar.specs.Automaton.{Symbol, s_body, s_after_triple, s_after_element, s_after_group, s_slot, s_var, s_bound}
use Rattle.grammar.specs.Automaton.{s_primary, s_negatable, s_relation, s_tail, s_lBrace, s_lParen, s_rParen, s_comma, s_aS, s_tRUST}
use Rattle.grammar.specs.Automaton.{Entry, marks, vars, terms}
use Rattle.scanner.specs.Fixed.{fixed_token}
use Rattle.lexer.specs.Symbols.{code}

-- every symbol
abbrev pub symbols : List Symbol
symbols =
    s_body ∷ s_after_triple ∷ s_after_element ∷ s_after_group ∷ s_slot ∷ s_var ∷ s_bound ∷ s_primary ∷ s_negatable ∷ s_relation ∷ s_tail ∷ s_lBrace ∷
    s_lParen ∷ s_rParen ∷ s_comma ∷ s_aS ∷ s_tRUST ∷ []

-- in the order of their codes
at_code : {A : Type 0} (f : Symbol → A) (d : A) (X : Symbol) → get_or (map f symbols) (code X - 1) d ≡ f X
at_code f d s_body = refl
at_code f d s_after_triple = refl
at_code f d s_after_element = refl
at_code f d s_after_group = refl
at_code f d s_slot = refl
at_code f d s_var = refl
at_code f d s_bound = refl
at_code f d s_primary = refl
at_code f d s_negatable = refl
at_code f d s_relation = refl
at_code f d s_tail = refl
at_code f d s_lBrace = refl
at_code f d s_lParen = refl
at_code f d s_rParen = refl
at_code f d s_comma = refl
at_code f d s_aS = refl
at_code f d s_tRUST = refl

-- functions with the same values
pub alike : {A : Type 0} (f g : Symbol → A) → map f symbols ≡ map g symbols → (X : Symbol) → f X ≡ g X
alike f g e X = sym (at_code f (f X) X) ∙ ap (λ l. get_or l (code X - 1) (f X)) e ∙ at_code g (f X) X

-- ---- codes

pub code-digit : (X : Symbol) → (1 ≤ code X) × (code X ≤ 17)
code-digit X =
    let least = alike (λ Y. leb 1 (code Y)) (λ Y. true) refl X in
    let most = alike (λ Y. leb (code Y) 17) (λ Y. true) refl X in
    (leb-true 1 (code X) least, leb-true (code X) 17 most)

-- ---- productions

abbrev size : Option (List Symbol) → ℕ
size none = 0
size (some α) = length α

-- those of a table are short
few :
    (table : Symbol → Option (List Symbol)) → map (λ X. leb (size (table X)) 3) symbols ≡ map (λ X. true) symbols
    → (X : Symbol) (α : List Symbol) → table X ≡ some α → length α ≤ 3
few table h X α e = omega (arith, leb-true (size (table X)) 3 (alike (λ Y. leb (size (table Y)) 3) (λ Y. true) h X), ap size e)

pub vars-few : (X : Symbol) (α : List Symbol) → vars X ≡ some α → length α ≤ 3
vars-few = few vars refl

pub terms-few : (X : Symbol) (α : List Symbol) → terms X ≡ some α → length α ≤ 3
terms-few = few terms refl

-- ---- fixed tokens

-- functions with the same values at a list
map_at : {A B : Type 0} (f g : A → B) (xs : List A) {x : A} → map f xs ≡ map g xs → Memᴰ x xs → f x ≡ g x
map_at f g [] h m = elim m [ ]
map_at f g (y ∷ ys) h (Memᴰ.head q) = ap f q ∙ (cc) ∙ sym (ap g q)
map_at f g (y ∷ ys) h (Memᴰ.tail m) = map_at f g ys (cc) m

-- and at every fixed token of every symbol
entries-alike :
    {B : Type 0} (f g : Entry → B) → map (λ X. map f (marks X)) symbols ≡ map (λ X. map g (marks X)) symbols
    → (X : Symbol) {e : Entry} → Memᴰ e (marks X) → f e ≡ g e
entries-alike f g h X m = map_at f g (marks X) (alike (λ Y. map f (marks Y)) (λ Y. map g (marks Y)) h X) m

-- one is that of its first byte
pub entry-word : (X : Symbol) {e : Entry} → Memᴰ e (marks X) → e.0 ≡ fixed_token (get_or e.0 0 0)
unfolding ascii
entry-word X m = entries-alike (λ e. e.0) (λ e. fixed_token (get_or e.0 0 0)) refl X m

-- and its production is short
pub entry-few : (X : Symbol) {e : Entry} → Memᴰ e (marks X) → length e.1 ≤ 1 + 2 * length e.0
unfolding ascii
entry-few X m = leb-true _ _ (entries-alike (λ e. leb (length e.1) (1 + 2 * length e.0)) (λ e. true) refl X m)
