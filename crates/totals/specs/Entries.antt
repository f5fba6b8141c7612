-- The entries of groups in a lent output: a row more, and all of them. Assumes nothing.
use Rattle.std.specs.Prelude.{◌≡◌, cond, List, ◌++◌, ℕ, ◌+◌, ◌*◌, ◌≤◌, ◌<◌, eqb, leb, length, drop, get_or, set}
use Rattle.tsparql.specs.Values.{Row, lesser}
use Rattle.tsparql.specs.Evaluate.{trust_word}
use Rattle.tsparql.specs.Totals.{group_length, totals_words}
use Rattle.cells.specs.Words.{word_trust}

-- a new entry behind the first k: cell word x, count 1, trust word t
abbrev pub new_entry : ℕ → ℕ → ℕ → List ℕ → List ℕ
new_entry k x t out = set (set (set out (group_length * k) x) (group_length * k + 1) 1) (group_length * k + 2) t

-- entry s with one row more, of trust word t
abbrev pub more_entry : ℕ → ℕ → List ℕ → List ℕ
more_entry s t out =
    set (set out (group_length * s + 1) (get_or out (group_length * s + 1) 0 + 1)) (group_length * s + 2)
    (trust_word (lesser (word_trust (get_or out (group_length * s + 2) 0)) (word_trust t)))

-- there is room for the entry s, one of k or the next, and its count can be raised
pub record Addable (k s : ℕ) (out : List ℕ) : Type 0 where
  pub within : s ≤ k
  pub room : group_length * s + group_length ≤ length out
  pub small : s < k → get_or out (group_length * s + 1) 0 < 4294967295

-- a row with the words x and t made entry s, the next, or joined it; r entries stand there now
pub record Added (k s x t : ℕ) (out out' : List ℕ) (r : ℕ) : Type 0 where
  pub count : r ≡ cond (eqb s k) (k + 1) k
  pub words : out' ≡ cond (eqb s k) (new_entry k x t out) (more_entry s t out)

-- the entries in front of an output
abbrev pub entered : ℕ → List Row → List ℕ → List ℕ
entered u rs out = totals_words u rs ++ drop (length (totals_words u rs)) out

-- the entries stand in front of the output where they fit, and r is how many words they are
pub record Entered (u : ℕ) (rs : List Row) (out out' : List ℕ) (r : ℕ) : Type 0 where
  pub size : r ≡ length (totals_words u rs)
  pub output : out' ≡ cond (leb (length (totals_words u rs)) (length out)) (entered u rs out) out
