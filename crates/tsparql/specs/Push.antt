-- Push: a bound on trust carried down from the root (document 01, "Rewrite"), the field's selection push-down.
-- Bounds stand plus 1000. Assumes nothing.
use Rattle.std.specs.Prelude.{cond, ℕ, ◌≤◌, max, min, ltb}
use Rattle.tsparql.specs.Query.{Node, pattern_set, join, left_join, union, filter, project_trust, ensure_trust}

-- none, or (l, u)
pub data TrustBound : Type 0 where
  no_bound : TrustBound
  between : ℕ → ℕ → TrustBound

-- l and u are at most 1000
abbrev pub BoundFormed : TrustBound → Type 0
BoundFormed no_bound = Unit {0}
BoundFormed (between l u) = (l ≤ 2000) × (u ≤ 2000)

-- the bound that the operand of ensure trust (m, w) gets
abbrev pub meet : TrustBound → ℕ → ℕ → TrustBound
meet no_bound m w = between m w
meet (between l u) m w = between (max l m) (min u w)

-- what both operands of a join get, and the left one of a left join: (l, 1000); none under none
abbrev pub trust_floor : TrustBound → TrustBound
trust_floor no_bound = no_bound
trust_floor (between l u) = between l 2000

-- the node wrapped in ensure trust; bare under none
abbrev pub wrap : TrustBound → Node → Node
wrap no_bound q = q
wrap (between l u) q = ensure_trust l u q

-- wrapped only if u is below 1000; bare under none
abbrev pub wrap_below : TrustBound → Node → Node
wrap_below no_bound q = q
wrap_below (between l u) q = cond (ltb u 2000) (ensure_trust l u q) q

-- the node with a bound carried down from above it
unfoldable pub push : TrustBound → Node → Node
push b (pattern_set ps) = wrap b (pattern_set ps)
push b (join x y) = wrap_below b (join (push (trust_floor b) x) (push (trust_floor b) y))
push b (left_join c x y) = wrap b (left_join c (push (trust_floor b) x) (push no_bound y))
push b (union x y) = union (push b x) (push b y)
push b (filter c x) = filter c (push b x)
push b (project_trust v x) = project_trust v (push b x)
push b (ensure_trust m w x) = push (meet b m w) x
