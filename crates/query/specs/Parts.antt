-- The readers of the definitions in parts, over the readers of heads: what stands between a head and its operands, and operands one behind
-- the other. That these parts are the definitions' readers is proved in proofs/. Places are counted from the start of the part.
-- Assumes nothing.
use Rattle.std.specs.Prelude.{List, ℕ, zero, suc, ◌+◌, drop}
use Rattle.tsparql.specs.Reading.{Read, got, fault, read_patterns, read_condition, read_node}
use Rattle.heads.specs.declared.Head.{Head}
use Rattle.heads.specs.declared.Head.TheVariants as H
use Rattle.heads.specs.Parts.{node_head_read}

-- ---- places

-- what was found, made into something else
abbrev pub map_read : {A B : Type 0} → (A → B) → Read A → Read B
map_read f (got a n) = got (f a) n
map_read f (fault p) = fault p

-- the place alone
abbrev pub placed : {A : Type 0} → Read A → Read (Unit {0})
placed r = map_read (λ _. tt) r

-- a place counted from so many bytes before
abbrev pub shift : {A : Type 0} → ℕ → Read A → Read A
shift at (got a n) = got a (at + n)
shift at (fault p) = fault (at + p)

-- go on at the next place
abbrev pub follow : {A B : Type 0} → Read A → (A → ℕ → Read B) → Read B
follow (got a n) k = k a n
follow (fault p) k = fault p

-- ---- conditions

-- n conditions one behind the other, from a place on
unfoldable pub conditions_from : ℕ → ℕ → List ℕ → Read (Unit {0})
conditions_from zero at s = got tt at
conditions_from (suc n) at s = follow (shift at (read_condition (drop at s))) (λ c mid. conditions_from n mid s)

-- ---- nodes

-- n patterns from a place on
abbrev pub patterns_from : ℕ → ℕ → List ℕ → Read (Unit {0})
patterns_from n at s = placed (shift at (read_patterns n (drop at s)))

-- what stands between a head and its operands: patterns, or a condition
abbrev pub before_operands : List ℕ → Head → ℕ → Read (Unit {0})
before_operands s (H.PatternSet n) at = patterns_from n at s
before_operands s H.Join at = got tt at
before_operands s H.LeftJoin at = conditions_from 1 at s
before_operands s H.Union at = got tt at
before_operands s H.Filter at = conditions_from 1 at s
before_operands s (H.ProjectTrust v) at = got tt at
before_operands s (H.EnsureTrust l u) at = got tt at

-- a node without its operands: the head, and the place behind its patterns or condition
abbrev pub own_read : List ℕ → Read Head
own_read s = follow (node_head_read s) (λ h own. map_read (λ _. h) (before_operands s h own))

-- n nodes one behind the other, from a place on
unfoldable pub nodes_from : ℕ → ℕ → List ℕ → Read (Unit {0})
nodes_from zero at s = got tt at
nodes_from (suc n) at s = follow (shift at (read_node (drop at s))) (λ x mid. nodes_from n mid s)
