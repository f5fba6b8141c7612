-- Chains of rows by their word of a variable, so that a row with the same word is found in few steps: every row stands in front of the
-- chain of its word's bucket, and links to the row that stood there. A row is named by its number plus 1, none by 0. The chains of joins
-- are built from the last row on, so that they rise; these are built from the first row on and searched meanwhile. Assumes nothing.
use Rattle.std.specs.Prelude.{◌≡◌, List, ℕ, ◌+◌, ◌-◌, ◌*◌, ◌/◌, ◌%◌, ◌≤◌, ◌<◌, length, get_or}
use Rattle.rows.specs.RowWords.{word_of}

-- the buckets of chains
abbrev pub bucket_count : ℕ
bucket_count = 65536

-- the most rows that have room in chains
abbrev pub most_rows : ℕ
most_rows = 65535

-- the bucket of a word. Words with the same upper part have different ones, so that a chain has at most 17 different cells; the factor
-- spreads words that rise by a step
abbrev pub bucket : ℕ → ℕ
bucket x = (x + x / 65536 * 40503) % bucket_count

-- the bucket of row i by variable u
abbrev pub bucket_at : ℕ → ℕ → List ℕ → ℕ
bucket_at u i ws = bucket (word_of u i ws)

-- c is the last of the first i rows that is in bucket b
pub record LastIn (u b i : ℕ) (ws : List ℕ) (c : ℕ) : Type 0 where
  pub within : c ≤ i
  pub hit : 0 < c → bucket_at u (c - 1) ws ≡ b
  pub over : (k : ℕ) → c ≤ k → k < i → bucket_at u k ws ≡ b → ⊥

-- each of the first i rows links to the last row before it that is in its bucket
abbrev pub Linked : ℕ → ℕ → List ℕ → List ℕ → Type 0
Linked u i ws links = (j : ℕ) → j < i → LastIn u (bucket_at u j ws) j ws (get_or links j 0)

-- the first i rows are chained: heads has the last row of each bucket
pub record Chained (u i : ℕ) (ws heads links : List ℕ) : Type 0 where
  pub buckets : length heads ≡ bucket_count
  pub room : length links ≡ most_rows
  pub heads-last : (b : ℕ) → b < bucket_count → LastIn u b i ws (get_or heads b 0)
  pub linked : Linked u i ws links
