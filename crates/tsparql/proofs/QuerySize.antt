-- How many bytes a condition and a node are written as (specs/Writing.antt): a law for each node with operands, and that none is
-- written as no byte. Assumes nothing.
use mathlib.Core.Path.{◌≡◌, refl, ap}
use Prim.Native.Nat.{ℕ, suc, ◌+◌, ◌≤◌}
use native.Mathlib.Omega.{arith}
use lib.ListN.{length-append}
use Rattle.tsparql.specs.Query.{Condition, bound, same, is_term, less, negation, conjunction, disjunction, always}
use Rattle.tsparql.specs.Query.{Node, pattern_set, join, left_join, union, filter, project_trust, ensure_trust}
use Rattle.tsparql.specs.Writing.{condition_bytes, node_bytes, condition_size, node_size}

-- ---- conditions

-- a condition is written as one byte at least
pub condition_size-positive : (c : Condition) → 1 ≤ condition_size c
unfolding condition_bytes
condition_size-positive (bound v) = omega arith
condition_size-positive (same v w) = omega arith
condition_size-positive (is_term v a) = omega arith
condition_size-positive (less v w) = omega arith
condition_size-positive (negation c) = omega arith
condition_size-positive (conjunction c d) = omega arith
condition_size-positive (disjunction c d) = omega arith
condition_size-positive always = omega arith

-- ---- nodes

pub node_size-join : (x y : Node) → node_size (join x y) ≡ suc (node_size x + node_size y)
unfolding node_bytes
node_size-join x y = ap suc (length-append (node_bytes x) (node_bytes y))

pub node_size-left_join : (c : Condition) (x y : Node) → node_size (left_join c x y) ≡ suc (condition_size c + (node_size x + node_size y))
unfolding node_bytes
node_size-left_join c x y = simp length-append

pub node_size-union : (x y : Node) → node_size (union x y) ≡ suc (node_size x + node_size y)
unfolding node_bytes
node_size-union x y = ap suc (length-append (node_bytes x) (node_bytes y))

pub node_size-filter : (c : Condition) (x : Node) → node_size (filter c x) ≡ suc (condition_size c + node_size x)
unfolding node_bytes
node_size-filter c x = ap suc (length-append (condition_bytes c) (node_bytes x))

pub node_size-project_trust : (v : ℕ) (x : Node) → node_size (project_trust v x) ≡ suc (node_size x)
unfolding node_bytes
node_size-project_trust v x = refl

pub node_size-ensure_trust : (l u : ℕ) (x : Node) → node_size (ensure_trust l u x) ≡ 4 + node_size x
unfolding node_bytes
node_size-ensure_trust l u x = omega arith

-- a node is written as one byte at least
pub node_size-positive : (q : Node) → 1 ≤ node_size q
unfolding node_bytes
node_size-positive (pattern_set ps) = omega arith
node_size-positive (join x y) = omega arith
node_size-positive (left_join c x y) = omega arith
node_size-positive (union x y) = omega arith
node_size-positive (filter c x) = omega arith
node_size-positive (project_trust v x) = omega arith
node_size-positive (ensure_trust l u x) = omega arith
