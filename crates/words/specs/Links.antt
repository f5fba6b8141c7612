-- Where the brackets of words close, braces and parentheses alike. Assumes nothing.
use Rattle.std.specs.Prelude.{◌≡◌, Bool, cond, ◌||◌, List, [], ◌∷◌, ℕ, zero, suc, ◌+◌, ◌-◌, ◌≤◌, ◌<◌, eqb, length, drop, get_or}

-- '{' or '('
abbrev pub is_opening : ℕ → Bool
is_opening w = eqb w 123 || eqb w 40

-- '}' or ')'
abbrev pub is_closing : ℕ → Bool
is_closing w = eqb w 125 || eqb w 41

-- what stands behind the bracket that closes the outermost of d open ones; nothing where none does
unfoldable pub behind_of : ℕ → List ℕ → List ℕ
behind_of d [] = []
behind_of (zero) (w ∷ ws) = w ∷ ws
behind_of (suc d) (w ∷ ws) = cond (is_closing w) (behind_of d ws) (cond (is_opening w) (behind_of (suc (suc d)) ws) (behind_of (suc d) ws))

-- the place behind the bracket that is open at i: as far on as fewer words are left; the end where none closes it
unfoldable pub closing : List ℕ → ℕ → ℕ
closing t i = i + (length (drop i t) - length (behind_of 1 (drop i t)))

-- ends has that place for every place from i on
abbrev pub LinkedFrom : List ℕ → List ℕ → ℕ → Type 0
LinkedFrom t ends i = (j : ℕ) → i ≤ j → j ≤ length t → get_or ends j 0 ≡ closing t j

-- ends has it for every place
pub record Linked (t ends : List ℕ) : Type 0 where
  pub within : length t < length ends
  pub links : LinkedFrom t ends 0

-- and behind them what it had before
pub record Links (t before ends : List ℕ) : Type 0 where
  pub linked : Linked t ends
  pub kept : (j : ℕ) → length t < j → get_or ends j 0 ≡ get_or before j 0
