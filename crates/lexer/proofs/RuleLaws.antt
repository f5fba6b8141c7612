-- The rules as a table: what the first rule for a symbol and a first byte says (`lookup`), and that it is what the automaton's own tables say
-- (`looked-up`). Assumes nothing.
use mathlib.Core.Path.{◌≡◌, refl, sym, ap, ◌∙◌}
use mathlib.Core.Bool.{Bool, true, false, cond}
use mathlib.Core.List.{List, [], ◌∷◌}
use mathlib.Core.Option.{some}
use Prim.Native.Nat.{ℕ}
use lib.Dec.{eqb}
use lib.ListN.{get_or}
use borrow.Author.Tests.{eqb-true}
use Rattle.tsparql.specs.Strikes.{ascii}
use Rattle.grammar.specs.Automaton.{Symbol, Entry, marks, vars, terms, find}
use Rattle.lexer.specs.Symbols.{code, digits, packed, Gives}
use Rattle.lexer.specs.Rules.{covering, production_of, allows, follow_of, follows}
use Rattle.lexer.specs.declared.Rule.{Rule}
use Rattle.std.proofs.Common.{Option, Some, None}
use Rattle.std.specs.List.{find as find_in}
use Rattle.std.specs.Option.{option_map}
use Rattle.lexer.proofs.SymbolLaws.{alike}

-- ---- a search

-- what the first rule for a symbol and a first byte says
unfoldable pub lookup : List Rule → ℕ → ℕ → Option ℕ
lookup [] n b = None
lookup (u ∷ us) n b = cond (covering u n b) (Some u.3) (lookup us n b)

-- it is the production of the first rule that covers them
lookup-find : (us : List Rule) (n b : ℕ) → option_map (λ (r : Rule). r.3) (find_in (λ (r : Rule). covering r n b) us) ≡ lookup us n b
unfolding lookup
lookup-find [] n b = refl
lookup-find (u ∷ us) n b = split (covering u n b) (lookup-find us n b)
  where
    split : (x : Bool) → option_map (λ (r : Rule). r.3) (find_in (λ (r : Rule). covering r n b) us) ≡ lookup us n b
        → option_map (λ (r : Rule). r.3) (cond x (Some u) (find_in (λ (r : Rule). covering r n b) us)) ≡ cond x (Some u.3) (lookup us n b)
    split true ih = refl
    split false ih = ih

-- ---- the table

unfoldable pub rule : ℕ → ℕ → ℕ → ℕ → Rule
rule low high first production = record { 0 = low; 1 = high; 2 = first; 3 = production }

unfoldable pub rules : List Rule
rules =
    rule 1 1 63 5282 ∷
    rule 3 4 63 5282 ∷
    rule 5 6 63 0 ∷
    rule 8 8 63 10 ∷
    rule 1 1 48 5282 ∷
    rule 3 4 48 5282 ∷
    rule 5 5 48 0 ∷
    rule 4 4 85 12324 ∷
    rule 2 4 46 1 ∷
    rule 1 4 125 0 ∷
    rule 1 4 123 36 ∷
    rule 1 4 79 12323 ∷
    rule 1 4 70 434531 ∷
    rule 1 4 84 16579 ∷
    rule 1 4 69 18697657795 ∷
    rule 8 9 66 13518 ∷
    rule 8 9 33 9 ∷
    rule 8 9 40 267 ∷
    rule 10 10 61 5 ∷
    rule 10 10 60 6 ∷
    rule 11 11 41 0 ∷
    rule 11 11 38 267 ∷
    rule 11 11 124 267 ∷
    rule 12 12 123 0 ∷
    rule 13 13 40 0 ∷
    rule 14 14 41 0 ∷
    rule 15 15 44 0 ∷
    rule 16 16 65 0 ∷
    rule 17 17 84 0 ∷ []

table-var : (X : Symbol) → lookup rules (code X) 63 ≡ follow_of (vars X)
unfolding rules rule lookup digits
table-var = alike (λ X. lookup rules (code X) 63) (λ X. follow_of (vars X)) refl

table-term : (X : Symbol) → lookup rules (code X) 48 ≡ follow_of (terms X)
unfolding rules rule lookup digits
table-term = alike (λ X. lookup rules (code X) 48) (λ X. follow_of (terms X)) refl

-- the fixed tokens among entries, by their first byte
picked : ℕ → List Entry → Option ℕ
picked b [] = None
picked b (e ∷ es) = cond (eqb b (get_or e.0 0 0)) (Some (packed e.1)) (picked b es)

picked-find : (b : ℕ) (es : List Entry) → picked b es ≡ follow_of (production_of (find b es))
unfolding picked
picked-find b [] = refl
picked-find b (e ∷ es) = split (eqb b (get_or e.0 0 0)) (picked-find b es)
  where
    split : (x : Bool) → picked b es ≡ follow_of (production_of (find b es))
        → cond x (Some (packed e.1)) (picked b es) ≡ follow_of (production_of (cond x (some e) (find b es)))
    split true ih = refl
    split false ih = ih

table-mark : (b : ℕ) → eqb b 63 ≡ false → eqb b 48 ≡ false → (X : Symbol) → lookup rules (code X) b ≡ picked b (marks X)
unfolding rules rule lookup digits picked ascii
table-mark b p q = alike (λ X. lookup rules (code X) b) (λ X. picked b (marks X)) (rw (p, q))

table-allows : (b : ℕ) (X : Symbol) → lookup rules (code X) b ≡ follow_of (allows X b)
table-allows b X = query (eqb b 63) refl
  where
    zero-digit : (x : Bool) → eqb b 48 ≡ x → eqb b 63 ≡ false → lookup rules (code X) b ≡ follow_of (allows X b)
    zero-digit true e p = rw (eqb-true b 48 e) (table-term X)
    zero-digit false e p = table-mark b p e X ∙ picked-find b (marks X) ∙ sym (rw (p, e))

    query : (x : Bool) → eqb b 63 ≡ x → lookup rules (code X) b ≡ follow_of (allows X b)
    query true e = rw (eqb-true b 63 e) (table-var X)
    query false e = zero-digit (eqb b 48) refl e

pub looked-up :
    (n b : ℕ) (r : Option ℕ) → r ≡ option_map (λ (u : Rule). u.3) (find_in (λ (u : Rule). covering u n b) rules) → Gives n (λ X. follows X b) r
looked-up n b r e X q = e ∙ lookup-find rules n b ∙ ap (λ (k : ℕ). lookup rules k b) q ∙ table-allows b X
