-- What a part of a query starts with, where it has no fault: patterns, or a node; the next node in prefix order; a whole query.
-- Assumes nothing.
use Rattle.std.specs.Prelude.{List, [], ℕ, drop}
use Rattle.tsparql.specs.Query.{Pattern, Node}
use Rattle.tsparql.specs.Reading.{Read, got, fault, read_patterns, read_node, read_query, found_node}
use Rattle.query.specs.Parts.{placed, own_read}

-- something was found
abbrev pub IsGot : {A : Type 0} → Read A → Type 0
IsGot (got a n) = Unit {0}
IsGot (fault p) = ⊥

-- n patterns stand from a place on
abbrev pub PatternsSound : ℕ → ℕ → List ℕ → Type 0
PatternsSound n at s = IsGot (read_patterns n (drop at s))

-- the patterns that were found
abbrev pub found_patterns : Read (List Pattern) → List Pattern
found_patterns (got ps n) = ps
found_patterns (fault p) = []

-- the part starts with a node
abbrev pub NodeSound : List ℕ → Type 0
NodeSound s = IsGot (read_node s)

-- the node that the part starts with
abbrev pub node_of : List ℕ → Node
node_of s = found_node (read_node s)

-- the place behind a head and its patterns or condition
abbrev pub next_node : List ℕ → Read (Unit {0})
next_node s = placed (own_read s)

-- the query has no fault
abbrev pub QuerySound : List ℕ → Type 0
QuerySound s = IsGot (read_query s)
