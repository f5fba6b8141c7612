-- The tree of a query: patterns, conditions, nodes (document 01, "Query bytes"). Its bytes are in Writing and Reading.
-- Bounds of ensure trust stand plus 1000, as trusts do. Assumes nothing.
use Rattle.std.specs.Prelude.{List, ℕ}

-- what stands at the subject, predicate or object of a pattern
pub data Slot : Type 0 where
  a_term : ℕ → Slot
  a_variable : ℕ → Slot

pub record Pattern : Type 0 where
  pub subject : Slot
  pub predicate : Slot
  pub object : Slot

-- in the order of the kinds 0 to 7
pub data Condition : Type 0 where
  bound : ℕ → Condition
  same : ℕ → ℕ → Condition
  is_term : ℕ → ℕ → Condition
  less : ℕ → ℕ → Condition
  negation : Condition → Condition
  conjunction : Condition → Condition → Condition
  disjunction : Condition → Condition → Condition
  always : Condition

-- in the order of the kinds 0 to 6; ensure_trust has the lower bound, then the upper
pub data Node : Type 0 where
  pattern_set : List Pattern → Node
  join : Node → Node → Node
  left_join : Condition → Node → Node → Node
  union : Node → Node → Node
  filter : Condition → Node → Node
  project_trust : ℕ → Node → Node
  ensure_trust : ℕ → ℕ → Node → Node

-- P holds of every pattern set of the node
abbrev pub EverySet : (List Pattern → Type 0) → Node → Type 0
EverySet P (pattern_set ps) = P ps
EverySet P (join x y) = EverySet P x × EverySet P y
EverySet P (left_join c x y) = EverySet P x × EverySet P y
EverySet P (union x y) = EverySet P x × EverySet P y
EverySet P (filter c x) = EverySet P x
EverySet P (project_trust v x) = EverySet P x
EverySet P (ensure_trust l u x) = EverySet P x
