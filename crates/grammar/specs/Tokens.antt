-- The tokens of a typed query, the bytes of each, and which texts write a list of tokens (request 6). No reader is mentioned here.
-- Groups: the fixed tokens; tokens; white space. Assumes nothing.
use Rattle.std.specs.Prelude.{◌≡◌, Bool, true, false, ◌&&◌, ◌||◌, List, [], ◌∷◌, ◌++◌, ℕ, eqb, leb, get_or}
use Rattle.tsparql.specs.Strikes.{ascii, decimal}

-- ---- the fixed tokens: signs and keywords

abbrev pub LBRACE : List ℕ
LBRACE = ascii "{"

abbrev pub RBRACE : List ℕ
RBRACE = ascii "}"

abbrev pub LPAREN : List ℕ
LPAREN = ascii "("

abbrev pub RPAREN : List ℕ
RPAREN = ascii ")"

abbrev pub DOT : List ℕ
DOT = ascii "."

abbrev pub COMMA : List ℕ
COMMA = ascii ","

abbrev pub EQUAL : List ℕ
EQUAL = ascii "="

abbrev pub LESS : List ℕ
LESS = ascii "<"

abbrev pub NOT : List ℕ
NOT = ascii "!"

abbrev pub AND : List ℕ
AND = ascii "&&"

abbrev pub OR : List ℕ
OR = ascii "||"

abbrev pub OPTIONAL : List ℕ
OPTIONAL = ascii "OPTIONAL"

abbrev pub UNION : List ℕ
UNION = ascii "UNION"

abbrev pub FILTER : List ℕ
FILTER = ascii "FILTER"

abbrev pub BOUND : List ℕ
BOUND = ascii "BOUND"

abbrev pub TRUST : List ℕ
TRUST = ascii "TRUST"

abbrev pub AS : List ℕ
AS = ascii "AS"

abbrev pub ENSURE : List ℕ
ENSURE = ascii "ENSURE"

-- ---- tokens

-- a fixed token, by its bytes; a variable; a number; a number below 0, by its distance from 0
pub data Token : Type 0 where
  mark : List ℕ → Token
  var : ℕ → Token
  num : ℕ → Token
  neg : ℕ → Token

-- the bytes of a token: numbers are decimal, without a leading zero
abbrev pub spelling : Token → List ℕ
spelling (mark w) = w
spelling (var n) = ascii "?" ++ decimal n
spelling (num n) = decimal n
spelling (neg n) = ascii "-" ++ decimal n

-- A to Z
abbrev pub is_capital : ℕ → Bool
is_capital b = leb 65 b && leb b 90

-- a word or a number: keywords begin with a capital, signs do not
abbrev pub is_word_or_number : Token → Bool
is_word_or_number (mark w) = is_capital (get_or w 0 0)
is_word_or_number (var n) = false
is_word_or_number (num n) = true
is_word_or_number (neg n) = true

-- the same, or a variable
abbrev pub is_word_number_or_variable : Token → Bool
is_word_number_or_variable (mark w) = is_capital (get_or w 0 0)
is_word_number_or_variable (var n) = true
is_word_number_or_variable (num n) = true
is_word_number_or_variable (neg n) = true

-- ---- white space

-- a space or a line feed
abbrev pub is_space : ℕ → Bool
is_space b = eqb b 32 || eqb b 10

-- Written a ts s: the text s writes the tokens ts. White space may stand around them, and must between a word, number or variable and a
-- word or number; a says that a word, number or variable ends directly before s.
pub data Written : Bool → List Token → List ℕ → Type 0 where
  done : {a : Bool} → Written a [] []
  space : {a : Bool} {ts : List Token} {s : List ℕ} (b : ℕ) → is_space b ≡ true → Written false ts s → Written a ts (b ∷ s)
  token :
      {a : Bool} {ts : List Token} {s : List ℕ} (t : Token) (rest : List ℕ) → (a && is_word_or_number t) ≡ false → s ≡ spelling t ++ rest
      → Written (is_word_number_or_variable t) ts rest → Written a (t ∷ ts) s
