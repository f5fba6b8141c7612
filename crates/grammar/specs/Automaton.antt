-- A reader of typed queries as a machine on bytes: a stack of what has still to come, and where in a token it stands. It is a definition
-- that computes; that it accepts exactly the texts with a derivation, and stops exactly at the longest start, is proved
-- (proofs/Reading), so nothing here has to be believed. Groups: what has still to come; the machine; the run. The bytes '?', '-', '0'
-- and '9' are 63, 45, 48 and 57. Assumes nothing.
use Rattle.std.specs.Prelude.{Bool, true, false, cond, ◌&&◌, not, List, [], ◌∷◌, ◌++◌, ℕ, suc, ◌+◌, ◌*◌, ◌-◌, eqb, leb, get_or, drop}
use Rattle.std.proofs.Math.Option.{Option, none, some}
use Rattle.grammar.specs.Tokens.{Token, mark, var, num, neg, is_space, is_capital, is_word_number_or_variable}
use Rattle.grammar.specs.Tokens as T

-- ---- what has still to come

-- what a stack holds
pub data Symbol : Type 0 where
  -- a body, and what may follow a triple, an element, a group in one
  s_body s_after_triple s_after_element s_after_group : Symbol
  -- a slot, a variable, a number of thousandths
  s_slot s_var s_bound : Symbol
  -- parts of a condition; after the variable that begins one; after a primary, up to the closing parenthesis
  s_primary s_negatable s_relation s_tail : Symbol
  -- one fixed token
  s_lBrace s_lParen s_rParen s_comma s_aS s_tRUST : Symbol

-- a fixed token, and what has to come after it
abbrev pub Entry : Type 0
Entry = List ℕ × List Symbol

-- what may come for a symbol, and what has to come after it: a variable, a term, a bound (after which nothing has to), fixed tokens
pub record Choices : Type 0 where
  pub vars : Option (List Symbol)
  pub terms : Option (List Symbol)
  pub is_bound : Bool
  pub marks : List Entry

-- only fixed tokens
abbrev pub fixed : List Entry → Choices
fixed es = record { vars = none; terms = none; is_bound = false; marks = es }

-- fixed tokens, or a triple by its first slot
abbrev pub or_triple : List Entry → Choices
or_triple es =
    let others = s_slot ∷ s_slot ∷ s_after_triple ∷ [] in
    record { vars = some others; terms = some others; is_bound = false; marks = es }

-- the end of a group, or an element
abbrev pub elements : List Entry
elements =
    (T.RBRACE, []) ∷
    (T.LBRACE, s_body ∷ s_after_group ∷ []) ∷
    (T.OPTIONAL, s_lBrace ∷ s_body ∷ s_after_element ∷ []) ∷
    (T.FILTER, s_lParen ∷ s_primary ∷ s_tail ∷ s_after_element ∷ []) ∷
    (T.TRUST, s_aS ∷ s_var ∷ s_after_element ∷ []) ∷
    (T.ENSURE, s_tRUST ∷ s_lParen ∷ s_bound ∷ s_comma ∷ s_bound ∷ s_rParen ∷ s_after_element ∷ []) ∷ []

abbrev pub dot : Entry
dot = (T.DOT, s_body ∷ [])

abbrev pub negatables : List Entry
negatables = (T.BOUND, s_lParen ∷ s_var ∷ s_rParen ∷ []) ∷ (T.NOT, s_negatable ∷ []) ∷ (T.LPAREN, s_primary ∷ s_tail ∷ []) ∷ []

abbrev pub choices : Symbol → Choices
choices s_body = or_triple elements
choices s_after_triple = fixed (dot ∷ elements)
choices s_after_element = or_triple (dot ∷ elements)
choices s_after_group = or_triple ((T.UNION, s_lBrace ∷ s_body ∷ s_after_group ∷ []) ∷ dot ∷ elements)
choices s_slot = record { vars = some []; terms = some []; is_bound = false; marks = [] }
choices s_var = record { vars = some []; terms = none; is_bound = false; marks = [] }
choices s_bound = record { vars = none; terms = none; is_bound = true; marks = [] }
choices s_primary = record { vars = some (s_relation ∷ []); terms = none; is_bound = false; marks = negatables }
choices s_negatable = fixed negatables
choices s_relation = fixed ((T.EQUAL, s_slot ∷ []) ∷ (T.LESS, s_var ∷ []) ∷ [])
choices s_tail = fixed ((T.RPAREN, []) ∷ (T.AND, s_primary ∷ s_tail ∷ []) ∷ (T.OR, s_primary ∷ s_tail ∷ []) ∷ [])
choices s_lBrace = fixed ((T.LBRACE, []) ∷ [])
choices s_lParen = fixed ((T.LPAREN, []) ∷ [])
choices s_rParen = fixed ((T.RPAREN, []) ∷ [])
choices s_comma = fixed ((T.COMMA, []) ∷ [])
choices s_aS = fixed ((T.AS, []) ∷ [])
choices s_tRUST = fixed ((T.TRUST, []) ∷ [])

abbrev pub vars : Symbol → Option (List Symbol)
vars X = (choices X).vars

abbrev pub terms : Symbol → Option (List Symbol)
terms X = (choices X).terms

abbrev pub is_bound : Symbol → Bool
is_bound X = (choices X).is_bound

abbrev pub marks : Symbol → List Entry
marks X = (choices X).marks

-- ---- the machine

-- the kinds of tokens with a number
pub data Kind : Type 0 where
  k_var k_num k_neg : Kind

abbrev pub token_of : Kind → ℕ → Token
token_of k_var n = var n
token_of k_num n = num n
token_of k_neg n = neg n

pub data State : Type 0 where
  -- between tokens; whether a word, number or variable stands directly before
  gap : Bool → List Symbol → State
  -- inside a fixed token: the next byte of it, those behind, the token
  in_mark : ℕ → List ℕ → Token → List Symbol → State
  -- before the first digit: the least and the greatest number
  first : ℕ → ℕ → Kind → List Symbol → State
  -- inside a number: the greatest, and the value so far
  in_number : ℕ → ℕ → Kind → List Symbol → State

-- the byte is not taken; or it is: the tokens that end with it, and the next state
pub data Move : Type 0 where
  stop : Move
  go : List Token → State → Move

abbrev pub prepend : Token → Move → Move
prepend t stop = stop
prepend t (go ts st) = go (t ∷ ts) st

abbrev pub digit : ℕ → Bool
digit b = leb 48 b && leb b 57

-- of fixed tokens, each with something, the one with this first byte
abbrev pub find : {A : Type 0} → ℕ → List (List ℕ × A) → Option (List ℕ × A)
find b [] = none
find b (e ∷ es) = cond (eqb b (get_or e.0 0 0)) (some e) (find b es)

-- inside a fixed token, of which these bytes are left
abbrev pub within : List ℕ → Token → List Symbol → Move
within [] t σ = go (t ∷ []) (gap (is_word_number_or_variable t) σ)
within (c ∷ w) t σ = go [] (in_mark c w t σ)

-- the first byte of a fixed token: a word does not follow a word, number or variable directly
abbrev pub on_mark : Bool → List Symbol → Option Entry → Move
on_mark a σ none = stop
on_mark a σ (some e) = cond (a && is_capital (get_or e.0 0 0)) stop (within (drop 1 e.0) (mark e.0) (e.1 ++ σ))

abbrev pub on_var : List Symbol → Option (List Symbol) → Move
on_var σ none = stop
on_var σ (some α) = go [] (first 0 15 k_var (α ++ σ))

abbrev pub on_term : ℕ → List Symbol → Option (List Symbol) → Move
on_term b σ none = stop
on_term b σ (some α) = cond (eqb b 48) stop (go [] (in_number 1048575 (b - 48) k_num (α ++ σ)))

-- the first byte of a token, for the symbol on top
unfoldable pub onto : Bool → List Symbol → ℕ → Move
onto a [] b = stop
onto a (X ∷ σ) b =
    cond (eqb b 63) (on_var σ (vars X))
    (cond (eqb b 45) (cond (is_bound X && not a) (go [] (first 1 1000 k_neg σ)) stop)
    (cond (digit b) (cond a stop (cond (is_bound X) (go [] (in_number 1000 (b - 48) k_num σ)) (on_term b σ (terms X))))
    (on_mark a σ (find b (marks X)))))

abbrev pub in_gap : Bool → List Symbol → ℕ → Move
in_gap a σ b = cond (is_space b) (go [] (gap false σ)) (onto a σ b)

-- a number goes on with a digit that keeps it in range, unless it is 0; else it has ended
abbrev pub step : State → ℕ → Move
step (gap a σ) b = in_gap a σ b
step (in_mark c w t σ) b = cond (eqb b c) (within w t σ) stop
step (first l u k σ) b = cond (digit b && leb l (b - 48)) (go [] (in_number u (b - 48) k σ)) stop
step (in_number u v k σ) b =
    cond (digit b && (leb 1 v && leb (v * 10 + (b - 48)) u))
    (go [] (in_number u (v * 10 + (b - 48)) k σ))
    (prepend (token_of k v) (in_gap true σ b))

-- ---- the run

-- the tokens, or the place of the fault
pub data Outcome : Type 0 where
  accepted : List Token → Outcome
  fault : ℕ → Outcome

abbrev pub after : List Token → Outcome → Outcome
after ts (accepted us) = accepted (ts ++ us)
after ts (fault n) = fault n

-- at the end of the text, which has n bytes
abbrev pub finish : ℕ → State → Outcome
finish n (gap a []) = accepted []
finish n (gap a (X ∷ σ)) = fault n
finish n (in_mark c w t σ) = fault n
finish n (first l u k σ) = fault n
finish n (in_number u v k []) = accepted (token_of k v ∷ [])
finish n (in_number u v k (X ∷ σ)) = fault n

-- bytes from place n on
unfoldable pub run : List ℕ → ℕ → State → Outcome
run [] n st = finish n st
run (b ∷ s) n st = elim (step st b) [ stop ↦ fault n | go ts st' ↦ after ts (run s (suc n) st') ]

abbrev pub initial : State
initial = gap false (s_lBrace ∷ s_body ∷ [])

-- the tokens of a text, or the place of the fault
unfoldable pub read : List ℕ → Outcome
read s = run s 0 initial
