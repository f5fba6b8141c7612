-- Words and what they stand for. Reading what was written gives the value (for a sound trust and a formed cell), writing what was read
-- gives the word (up to 2001 and 1,050,577), what is read is always sound and formed, and values in range are fixed by what they stand
-- for. By cases on the tests. Assumes nothing.
use mathlib.Core.Path.{◌≡◌, refl, ap}
use Prim.Native.Nat.{ℕ, ◌+◌, ◌≤◌}
use native.Mathlib.Omega.{arith}
use borrow.Author.Tests.{le-leb, lt-ltb, ne_eqb}
use lib.IntN.{ℤ, pos, negsuc}
use Rattle.tsparql.specs.Values.{Trust, known, unknown, Sound, Cell, free, term, trusted}
use Rattle.tsparql.specs.Evaluate.{trust_word, cell_word}
use Rattle.cells.specs.declared.Trust as Declared
use Rattle.cells.specs.declared.Trust.TheVariants.{Known, Unknown}
use Rattle.std.proofs.lemmas.Bool.Decides.{nat_tests}
use Rattle.cells.specs.Words.{shift, trust_in, NumberInRange, InRange, word_trust, word_cell, Formed}

-- ---- trust

-- a trust that was written is read again
pub trust-written-read : (t : Trust) → Sound t → word_trust (trust_word t) ≡ t
trust-written-read (known n) h = rw (le-leb n 2000 h)
trust-written-read unknown h = refl

-- a trust word that was read is written again
pub trust-read-written : (w : ℕ) → w ≤ 2001 → trust_word (word_trust w) ≡ w
trust-read-written w h = grind (arith, nat_tests)

-- every word reads as a sound trust
pub word_sound : (w : ℕ) → Sound (word_trust w)
word_sound w = grind (arith, nat_tests)

-- numbers in range with one shifted number are the same
shift-apart : (x y : ℤ) → NumberInRange x → NumberInRange y → shift x ≡ shift y → x ≡ y
shift-apart (pos m) (pos n) h k e = ap pos (omega arith)
shift-apart (pos m) (negsuc n) h k e = absurd (omega arith)
shift-apart (negsuc m) (pos n) h k e = absurd (omega arith)
shift-apart (negsuc m) (negsuc n) h k e = ap negsuc (omega arith)

-- values in range that stand for one trust are the same
pub value-fixed : (s t : Declared.Trust) → InRange s → InRange t → trust_in s ≡ trust_in t → s ≡ t
value-fixed (Known x) (Known y) h k e = ap Known (shift-apart x y h k cc)
value-fixed (Known x) Unknown h k e = cc
value-fixed Unknown (Known y) h k e = cc
value-fixed Unknown Unknown h k e = refl

pub trust-word-small : (t : Trust) → Sound t → trust_word t ≤ 2001
trust-word-small (known n) h = omega arith
trust-word-small unknown h = omega arith

-- ---- cells

-- a trust's cell word is 1,048,576 and its trust word
pub cell-trust-word : (t : Trust) → cell_word (trusted t) ≡ 1048576 + trust_word t
cell-trust-word (known n) = refl
cell-trust-word unknown = refl

-- a cell that was written is read again
pub cell-written-read : (c : Cell) → Formed c → word_cell (cell_word c) ≡ c
cell-written-read free h = refl
cell-written-read (term a) h = rw (ne_eqb a 0 (λ e. omega arith), lt-ltb a 1048576 h.1)
cell-written-read (trusted t) h = grind (arith, nat_tests, cell-trust-word, trust-written-read)

module _ (w : ℕ) where
  -- a cell word that was read is written again
  pub cell-read-written : w ≤ 1050577 → cell_word (word_cell w) ≡ w
  cell-read-written h = grind (arith, nat_tests, cell-trust-word, trust-read-written)

  -- every word reads as a formed cell
  pub word-formed : Formed (word_cell w)
  word-formed = grind (arith, nat_tests, word_sound)
