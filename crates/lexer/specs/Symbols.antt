-- Symbols of the automaton as bytes, and a production as one number. Assumes nothing.
use Rattle.std.specs.Prelude.{◌≡◌, List, [], ◌∷◌, reverse, ℕ, ◌+◌, ◌*◌}
use Rattle.grammar.specs.Automaton.{Symbol, s_body, s_after_triple, s_after_element, s_after_group, s_slot, s_var, s_bound}
use Rattle.grammar.specs.Automaton.{s_primary, s_negatable, s_relation, s_tail, s_lBrace, s_lParen, s_rParen, s_comma, s_aS, s_tRUST}

-- a symbol as a byte
abbrev pub code : Symbol → ℕ
code s_body = 1
code s_after_triple = 2
code s_after_element = 3
code s_after_group = 4
code s_slot = 5
code s_var = 6
code s_bound = 7
code s_primary = 8
code s_negatable = 9
code s_relation = 10
code s_tail = 11
code s_lBrace = 12
code s_lParen = 13
code s_rParen = 14
code s_comma = 15
code s_aS = 16
code s_tRUST = 17

-- r is what f gives for the symbol that the byte stands for
abbrev pub Gives : {A : Type 0} → ℕ → (Symbol → A) → A → Type 0
Gives byte f r = (X : Symbol) → byte ≡ code X → r ≡ f X

-- symbols as digits to the base 32, the first one the lowest
unfoldable pub digits : List Symbol → ℕ
digits [] = 0
digits (X ∷ σ) = digits σ * 32 + code X

-- a production as one number, its last symbol the lowest digit
abbrev pub packed : List Symbol → ℕ
packed α = digits (reverse α)
