-- The next token of a text for a symbol of the automaton (`next_token`): by its first byte a variable, a bound below 0, another number or a
-- fixed token. The bytes '?', '-' and '0' are 63, 45 and 48; the words of numbers are counted from 256, 2097152 and 4194304 (words' Words).
-- Assumes nothing.
use Rattle.std.specs.Prelude.{Bool, true, cond, ◌&&◌, not, List, ℕ, ◌+◌, eqb, ltb, length, drop, get_or, Option, Some, None, Result, Ok, Err}
use Rattle.grammar.specs.Tokens.{is_capital}
use Rattle.grammar.specs.Automaton.{Symbol, is_bound, digit}
use Rattle.scanner.specs.Scans.{skip_from, numeral_from}
use Rattle.scanner.specs.Fixed.{fixed_token, compared}
use Rattle.scanner.specs.declared.Numeric.{Numeric}
use Rattle.refusals.specs.declared.Fault.{Fault}
use Rattle.lexer.specs.Rules.{follows}
use Rattle.lexer.specs.declared.Lexeme.{Lexeme}

-- a token, or its fault
abbrev pub Step : Type 0
Step = Result Lexeme Fault

-- a fault at a place
abbrev pub fault_at : ℕ → Step
fault_at place = Err (record { 0 = place })

-- ---- numbers

-- a number as a token; where it is missing, the fault is at the place where it should begin
abbrev pub number_token : ℕ → ℕ → ℕ → Option Numeric → Step
number_token kind production at (Some n) = Ok (record { word = kind + n.value; next = n.next; tight = true; production = production })
number_token kind production at None = fault_at at

-- the number from l to u that begins at a place
abbrev pub number_at : ℕ → ℕ → ℕ → ℕ → List ℕ → ℕ → Step
number_at l u kind production s at = number_token kind production at (numeral_from l u at (drop at s))

-- ---- fixed tokens

-- one with the first byte b, of which so much stands at a place
abbrev pub word_token : ℕ → ℕ → ℕ → Result ℕ Fault → Step
word_token b production at (Ok n) = Ok (record { word = b; next = at + n; tight = is_capital b; production = production })
word_token b production at (Err f) = fault_at (at + f.0)

-- the one that begins at a place
abbrev pub word_at : ℕ → List ℕ → ℕ → Step
word_at production s at = word_token (get_or s at 0) production at (compared (fixed_token (get_or s at 0)) (drop at s))

-- ---- by the first byte

-- a token where one is allowed, by what has to come after it
abbrev pub when_allowed : ℕ → (ℕ → Step) → Option ℕ → Step
when_allowed at token None = fault_at at
when_allowed at token (Some production) = token production

-- a variable
abbrev pub variable_at : Symbol → Bool → List ℕ → ℕ → Step
variable_at X tight s at = when_allowed at (λ p. number_at 0 15 256 p s (at + 1)) (follows X 63)

-- a bound below 0; no number follows a word, number or variable directly
abbrev pub negative_at : Symbol → Bool → List ℕ → ℕ → Step
negative_at X tight s at = cond (is_bound X && not tight) (number_at 1 1000 4194304 0 s (at + 1)) (fault_at at)

-- another bound, or a term
abbrev pub positive_at : Symbol → Bool → List ℕ → ℕ → Step
positive_at X tight s at =
    cond tight (fault_at at)
    (cond (is_bound X) (number_at 0 1000 2097152 0 s at) (when_allowed at (λ p. number_at 1 1048575 2097152 p s at) (follows X 48)))

-- a fixed token; no keyword follows a word, number or variable directly
abbrev pub word_apart : Bool → List ℕ → ℕ → ℕ → Step
word_apart tight s at production = cond (tight && is_capital (get_or s at 0)) (fault_at at) (word_at production s at)

-- where one is allowed
abbrev pub fixed_at : Symbol → Bool → List ℕ → ℕ → Step
fixed_at X tight s at = when_allowed at (word_apart tight s at) (follows X (get_or s at 0))

-- the token that begins at a place
unfoldable pub token_at : Symbol → Bool → List ℕ → ℕ → Step
token_at X tight s at =
    cond (eqb (get_or s at 0) 63) (variable_at X tight s at)
    (cond (eqb (get_or s at 0) 45) (negative_at X tight s at)
    (cond (digit (get_or s at 0)) (positive_at X tight s at) (fixed_at X tight s at)))

-- ---- behind white space

-- the token that begins at i, with white space before it from `at` on
abbrev pub token_behind : Symbol → Bool → List ℕ → ℕ → ℕ → Step
token_behind X tight s at i = cond (ltb i (length s)) (token_at X (tight && eqb at i) s i) (fault_at i)

-- the next token from a place on
unfoldable pub next_token : Symbol → Bool → List ℕ → ℕ → Step
next_token X tight s at = token_behind X tight s at (skip_from at (drop at s))
