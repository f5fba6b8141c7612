-- Well-formed trees: every number is in the range that the query bytes have for it (document 01, "Query bytes"). These are the trees
-- that the readers give, and those that are read back from their bytes. And what it is that a list of numbers is bytes.
-- Assumes nothing.
use Rattle.std.specs.Prelude.{List, ℕ, ◌≤◌, ◌<◌, length, get_or}
use Rattle.tsparql.specs.Query.{Slot, a_term, a_variable, Pattern}
use Rattle.tsparql.specs.Query.{Condition, bound, same, is_term, less, negation, conjunction, disjunction, always}
use Rattle.tsparql.specs.Query.{Node, pattern_set, join, left_join, union, filter, project_trust, ensure_trust}
use Rattle.tsparql.specs.Lists.{Every}

-- ---- slots and patterns

-- a term: 1 to 1,048,575
abbrev pub TermFormed : ℕ → Type 0
TermFormed a = (0 < a) × (a < 1048576)

-- a variable: 0 to 15
abbrev pub VariableFormed : ℕ → Type 0
VariableFormed v = v < 16

abbrev pub SlotFormed : Slot → Type 0
SlotFormed (a_term a) = TermFormed a
SlotFormed (a_variable v) = VariableFormed v

abbrev pub PatternFormed : Pattern → Type 0
PatternFormed p = SlotFormed p.subject × SlotFormed p.predicate × SlotFormed p.object

-- ---- conditions

abbrev pub ConditionFormed : Condition → Type 0
ConditionFormed (bound v) = VariableFormed v
ConditionFormed (same v w) = VariableFormed v × VariableFormed w
ConditionFormed (is_term v a) = VariableFormed v × TermFormed a
ConditionFormed (less v w) = VariableFormed v × VariableFormed w
ConditionFormed (negation c) = ConditionFormed c
ConditionFormed (conjunction c d) = ConditionFormed c × ConditionFormed d
ConditionFormed (disjunction c d) = ConditionFormed c × ConditionFormed d
ConditionFormed always = Unit {0}

-- ---- nodes

-- at most 15 patterns; bounds of trust, plus 1000, 0 to 2000
abbrev pub NodeFormed : Node → Type 0
NodeFormed (pattern_set ps) = (length ps < 16) × Every PatternFormed ps
NodeFormed (join x y) = NodeFormed x × NodeFormed y
NodeFormed (left_join c x y) = ConditionFormed c × NodeFormed x × NodeFormed y
NodeFormed (union x y) = NodeFormed x × NodeFormed y
NodeFormed (filter c x) = ConditionFormed c × NodeFormed x
NodeFormed (project_trust v x) = VariableFormed v × NodeFormed x
NodeFormed (ensure_trust l u x) = (l ≤ 2000) × (u ≤ 2000) × NodeFormed x

-- ---- bytes

-- every number of the list is a byte
abbrev pub Bytes : List ℕ → Type 0
Bytes s = (i : ℕ) → get_or s i 0 < 256
