-- The text of a number, and of a word's trust or cell, by the tests that code makes. Assumes nothing.
use mathlib.Core.Path.{◌≡◌, ◌∙◌}
use mathlib.Core.Bool.{Bool, false, not}
use mathlib.Core.List.{[], ◌∷◌, ◌++◌}
use Prim.Native.Nat.{ℕ, ◌+◌, ◌-◌, ◌/◌, ◌%◌, ◌≤◌, ◌<◌}
use native.Mathlib.Omega.{arith}
use borrow.Author.Tests.{le-leb, lt-leb, lt-ltb, le-ltb, ne_eqb}
use Rattle.tsparql.specs.Lists.{only_if}
use Rattle.tsparql.specs.Values.{is_free}
use Rattle.tsparql.specs.Strikes.{ascii, decimal, trust_text, value_text, cell_text}
use Rattle.tsparql.proofs.TextLaws.{decimal_step}
use Rattle.cells.specs.Words.{word_trust, word_cell}
use Rattle.rows.proofs.OperatorLaws.{word_set}

-- ---- numbers

pub decimal-one : (n : ℕ) → n < 10 → decimal n ≡ (48 + n) ∷ []
decimal-one n h = decimal_step n ∙ rw (lt-ltb n 10 h)

pub decimal-more : (n : ℕ) → 10 ≤ n → decimal n ≡ decimal (n / 10) ++ ((48 + n % 10) ∷ [])
decimal-more n h = decimal_step n ∙ rw (le-ltb n 10 h)

-- ---- trusts

pub unknown-text : (w : ℕ) → 2000 < w → trust_text (word_trust w) ≡ ascii "?"
unknown-text w h = rw (lt-leb w 2000 h)

pub minus-text : (w : ℕ) → w < 1000 → trust_text (word_trust w) ≡ ascii "-" ++ decimal (1000 - w)
minus-text w h = rw (le-leb w 2000 (omega arith), lt-ltb w 1000 h)

-- ---- cells

pub trusted-text : (w : ℕ) → 1048576 ≤ w → value_text (word_cell w) ≡ ascii "t" ++ trust_text (word_trust (w - 1048576))
trusted-text w h = rw (ne_eqb w 0 (λ e. omega arith), le-ltb w 1048576 h)

pub set-text : (v w : ℕ) → (w ≡ 0 → ⊥)
    → cell_text v (word_cell w) ≡ ascii " ?" ++ (decimal v ++ (ascii "=" ++ value_text (word_cell w)))
set-text v w h = go (is_free (word_cell w)) (word_set w h)
  where
    go : (b : Bool) → b ≡ false
        → only_if (not b) (ascii " ?" ++ (decimal v ++ (ascii "=" ++ value_text (word_cell w))))
        ≡ ascii " ?" ++ (decimal v ++ (ascii "=" ++ value_text (word_cell w)))
    go b e = rw e
