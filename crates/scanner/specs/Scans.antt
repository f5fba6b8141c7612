-- What stands at a place of a text, from the text from there on: where white space ends (`skip_from`), how much of a word there is
-- (`common`), and which number, and where it ends (`number_from`, `numeral_from`). Assumes nothing.
use Rattle.std.specs.Prelude.{Bool, cond, ◌&&◌, List, [], ◌∷◌, ℕ, suc, ◌+◌, ◌*◌, ◌-◌, eqb, leb, Option, Some, None}
use Rattle.grammar.specs.Tokens.{is_space}
use Rattle.grammar.specs.Automaton.{digit}
use Rattle.scanner.specs.declared.Numeric.{Numeric}

-- the first place from `at` on that holds no white space
unfoldable pub skip_from : ℕ → List ℕ → ℕ
skip_from at [] = at
skip_from at (b ∷ t) = cond (is_space b) (skip_from (suc at) t) at

-- how many bytes of a word the text begins with
abbrev pub common : List ℕ → List ℕ → ℕ
common [] t = 0
common (c ∷ w) [] = 0
common (c ∷ w) (b ∷ t) = cond (eqb b c) (suc (common w t)) 0

-- the value of a digit
abbrev pub digit_value : ℕ → Option ℕ
digit_value b = cond (digit b) (Some (b - 48)) None

-- a number whose digits so far give v goes on with the digit b, and stays within u; none follows a leading 0
abbrev pub goes_on : ℕ → ℕ → ℕ → Bool
goes_on u v b = digit b && (leb 1 v && leb (v * 10 + (b - 48)) u)

-- its value then, where it does
abbrev pub longer_by : ℕ → ℕ → ℕ → Option ℕ
longer_by u v b = cond (goes_on u v b) (Some (v * 10 + (b - 48))) None

-- such a number, which goes on at `at`: its value, and the place behind it
unfoldable pub number_from : ℕ → ℕ → ℕ → List ℕ → Numeric
number_from u v at [] = record { value = v; next = at }
number_from u v at (b ∷ t) =
    cond (goes_on u v b) (number_from u (v * 10 + (b - 48)) (suc at) t) (record { value = v; next = at })

-- the number from l to u whose first digit stands at `at`, if there is one
unfoldable pub numeral_from : ℕ → ℕ → ℕ → List ℕ → Option Numeric
numeral_from l u at [] = None
numeral_from l u at (b ∷ t) = cond (digit b && leb l (b - 48)) (Some (number_from u (b - 48) (suc at) t)) None
