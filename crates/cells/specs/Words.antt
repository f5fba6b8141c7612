-- From the code's enums to the definitions' data (`trust_in`, `cell_in`), and from words back to the data (`word_trust`, `word_cell`), for
-- every word. The words themselves are defined in tsparql's Evaluate; laws on both ways are in proofs/WordLaws. Assumes nothing.
use Rattle.std.specs.Prelude.{cond, ℕ, ◌+◌, ◌-◌, ◌≤◌, ◌<◌, min, leb, ltb, eqb, ℤ, pos, negsuc}
use Rattle.tsparql.specs.Values as Values
use Rattle.cells.specs.declared.Trust.{Trust}
use Rattle.cells.specs.declared.Trust.TheVariants.{Known, Unknown}
use Rattle.cells.specs.declared.Cell.{Cell}
use Rattle.cells.specs.declared.Cell.TheVariants.{Free, Term, Trusted}

-- ---- the code's values

-- a trust in thousandths, plus 1000; a number below -1000 counts as -1000, and one above 1000 as 1000
abbrev pub shift : ℤ → ℕ
shift (pos n) = min n 1000 + 1000
shift (negsuc n) = 999 - n

-- the trust that a value of the code stands for
abbrev pub trust_in : Trust → Values.Trust
trust_in (Known z) = Values.known (shift z)
trust_in Unknown = Values.unknown

-- the cell that a value of the code stands for
abbrev pub cell_in : Cell → Values.Cell
cell_in Free = Values.free
cell_in (Term n) = Values.term n
cell_in (Trusted t) = Values.trusted (trust_in t)

-- a number in the range of trusts, from -1000 to 1000; there `shift` keeps numbers apart
abbrev pub NumberInRange : ℤ → Type 0
NumberInRange (pos n) = n ≤ 1000
NumberInRange (negsuc n) = n ≤ 999

-- a known trust is in range
abbrev pub InRange : Trust → Type 0
InRange (Known z) = NumberInRange z
InRange Unknown = Unit {0}

-- a cell's trust, if any, is in range
abbrev pub CellInRange : Cell → Type 0
CellInRange Free = Unit {0}
CellInRange (Term n) = Unit {0}
CellInRange (Trusted t) = InRange t

-- ---- words

-- the trust of a word: unknown above 2000
abbrev pub word_trust : ℕ → Values.Trust
word_trust w = cond (leb w 2000) (Values.known w) Values.unknown

-- the cell of a word: 0 free, below 1,048,576 a term, else a trust
abbrev pub word_cell : ℕ → Values.Cell
word_cell w = cond (eqb w 0) Values.free (cond (ltb w 1048576) (Values.term w) (Values.trusted (word_trust (w - 1048576))))

-- a cell that has a word of its own: a term from 1 to 1,048,575, or a trust of at most 1000
abbrev pub Formed : Values.Cell → Type 0
Formed Values.free = Unit {0}
Formed (Values.term a) = (1 ≤ a) × (a < 1048576)
Formed (Values.trusted t) = Values.Sound t
