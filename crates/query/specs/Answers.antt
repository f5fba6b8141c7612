-- The answers of the readers of whole conditions and nodes, in the definitions' terms: for a tree the head that a reader answers for it;
-- and the refusal of a fault. Assumes nothing.
use Rattle.std.specs.Prelude.{length}
use Rattle.tsparql.specs.Query.{Condition, bound, same, is_term, less, negation, conjunction, disjunction, always}
use Rattle.tsparql.specs.Query.{Node, pattern_set, join, left_join, union, filter, project_trust, ensure_trust}
use Rattle.tsparql.specs.Reading.{Read, got, fault}
use Rattle.tsparql.specs.Check.{Refusal, refuse, no_refusal}
use Rattle.heads.specs.declared.ConditionHead.{ConditionHead}
use Rattle.heads.specs.declared.ConditionHead.TheVariants as C
use Rattle.heads.specs.declared.Head.{Head}
use Rattle.heads.specs.declared.Head.TheVariants as H

-- a condition without its operands
abbrev pub condition_head : Condition → ConditionHead
condition_head (bound v) = C.Bound v
condition_head (same v w) = C.Same v w
condition_head (is_term v a) = C.IsTerm v a
condition_head (less v w) = C.Less v w
condition_head (negation c) = C.Not
condition_head (conjunction c d) = C.And
condition_head (disjunction c d) = C.Or
condition_head always = C.True

-- a node without its operands
abbrev pub node_head : Node → Head
node_head (pattern_set ps) = H.PatternSet (length ps)
node_head (join x y) = H.Join
node_head (left_join c x y) = H.LeftJoin
node_head (union x y) = H.Union
node_head (filter c x) = H.Filter
node_head (project_trust v x) = H.ProjectTrust v
node_head (ensure_trust l u x) = H.EnsureTrust l u

-- 6 at the place of a fault
abbrev pub fault_refusal : {A : Type 0} → Read A → Refusal
fault_refusal (got a n) = no_refusal
fault_refusal (fault p) = refuse 6 p
