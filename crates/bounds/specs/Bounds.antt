-- The push of a node by its head: the bounds of its operands, and what stands before its operands in the end. Assumes nothing.
use Rattle.std.specs.Prelude.{Bool, true, false, cond, List, [], ◌∷◌, ◌++◌, ℕ, ◌+◌, ◌*◌, ltb, Option, None, Some}
use Rattle.tsparql.specs.Push.{TrustBound, no_bound, between, meet, trust_floor}
use Rattle.tsparql.specs.Writing.{first_byte, three_bytes}
use Rattle.heads.specs.declared.Head.{Head}
use Rattle.heads.specs.declared.Head.TheVariants as H
use Rattle.bounds.specs.declared.Bounds.{Bounds}

-- the bound that a value stands for
abbrev pub bound_in : Option Bounds → TrustBound
bound_in None = no_bound
bound_in (Some b) = between b.least b.most

-- ---- bounds

-- there is a bound
abbrev pub is_bound : TrustBound → Bool
is_bound no_bound = false
is_bound (between l u) = true

-- there is one, and its upper end is below 1000
abbrev pub is_below : TrustBound → Bool
is_below no_bound = false
is_below (between l u) = ltb u 2000

-- the bound of a node's first operand, where it has one
abbrev pub first_bound : Head → TrustBound → TrustBound
first_bound H.Join b = trust_floor b
first_bound H.LeftJoin b = trust_floor b
first_bound (H.EnsureTrust l u) b = meet b l u
first_bound _ b = b

-- the bound of its second operand, where it has one
abbrev pub second_bound : Head → TrustBound → TrustBound
second_bound H.Join b = trust_floor b
second_bound H.LeftJoin b = no_bound
second_bound _ b = b

-- ---- what stands before the operands

-- the node is wrapped in ensure trust
abbrev pub wrapped : Head → TrustBound → Bool
wrapped (H.PatternSet n) b = is_bound b
wrapped H.Join b = is_below b
wrapped H.LeftJoin b = is_bound b
wrapped _ b = false

-- ensure trust goes; every other node stays
abbrev pub stays : Head → Bool
stays (H.EnsureTrust l u) = false
stays _ = true

-- the bytes of ensure trust with this bound; none under none
abbrev pub wrap_bytes : TrustBound → List ℕ
wrap_bytes no_bound = []
wrap_bytes (between l u) = first_byte 6 0 ∷ three_bytes (4096 * l + u)

-- the wrap, and the bytes w that stood before the operands
unfoldable pub own_push : Head → TrustBound → List ℕ → List ℕ
own_push h b w = cond (stays h) (cond (wrapped h b) (wrap_bytes b) [] ++ w) []

-- how many they are, where k stood there
abbrev pub own_size : Head → TrustBound → ℕ → ℕ
own_size h b k = cond (stays h) (cond (wrapped h b) (4 + k) k) 0
