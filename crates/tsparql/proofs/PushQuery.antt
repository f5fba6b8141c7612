-- What push does to a query as a query: it is at most 5 times as long, its variables stay, it stays well-formed, and a second push
-- changes nothing. What it does to the rows is in PushRows. Assumes nothing.
use mathlib.Core.Path.{◌≡◌, refl, ap, ◌∙◌}
use mathlib.Core.Bool.{Bool, true, false, cond}
use mathlib.Core.List.{List, [], ◌∷◌, ◌++◌, map}
use Prim.Native.Nat.{ℕ, ◌+◌, ◌*◌, ◌≤◌}
use native.Mathlib.Nat.{le_refl, max-eq_right, min-eq_right}
use native.Mathlib.Omega.{arith}
use borrow.Author.Tests.{ltb-false, le-ltb}
use lib.Dec.{ltb}
use lib.ListN.{length}
use Rattle.tsparql.specs.Query.{Node, pattern_set, join, left_join, union, filter, project_trust, ensure_trust}
use Rattle.tsparql.specs.Push.{TrustBound, no_bound, between, meet, trust_floor, wrap, wrap_below, push, BoundFormed}
use Rattle.tsparql.specs.Writing.{condition_bytes, node_bytes, node_size}
use Rattle.tsparql.specs.Check.{TrustProjection, projected_variable, trust_projections, pattern_variables}
use Rattle.tsparql.proofs.ListLaws.{map-append}
use Rattle.tsparql.proofs.PushRows.{wrap-pass, wrap_below-pass}
use Rattle.tsparql.proofs.QuerySize.{node_size-positive, node_size-join, node_size-left_join, node_size-union, node_size-filter}
use Rattle.tsparql.proofs.QuerySize.{node_size-project_trust, node_size-ensure_trust}
use Rattle.tsparql.specs.WellFormed.{NodeFormed}

-- ---- length

wrap-size : (b : TrustBound) (q : Node) → node_size (wrap b q) ≤ 4 + node_size q
wrap-size no_bound q = omega arith
wrap-size (between l u) q = omega (arith, node_size-ensure_trust l u q)

wrap_below-size : (b : TrustBound) (q : Node) → node_size (wrap_below b q) ≤ 4 + node_size q
wrap_below-size no_bound q = omega arith
wrap_below-size (between l u) q = go (ltb u 2000)
  where
    go : (t : Bool) → node_size (cond t (ensure_trust l u q) q) ≤ 4 + node_size q
    go true = omega (arith, node_size-ensure_trust l u q)
    go false = omega arith

-- a push is at most 5 times as long
pub push-size-≤ : (b : TrustBound) (q : Node) → node_size (push b q) ≤ 5 * node_size q
unfolding push
push-size-≤ b (pattern_set ps) = omega (arith, wrap-size b (pattern_set ps), node_size-positive (pattern_set ps))
push-size-≤ b (join x y) =
    let x' = push (trust_floor b) x in
    let y' = push (trust_floor b) y in
    omega (
      arith,
      wrap_below-size b (join x' y'),
      node_size-join x' y',
      node_size-join x y,
      push-size-≤ (trust_floor b) x,
      push-size-≤ (trust_floor b) y,
    )
push-size-≤ b (left_join c x y) =
    let x' = push (trust_floor b) x in
    let y' = push no_bound y in
    omega (
      arith,
      wrap-size b (left_join c x' y'),
      node_size-left_join c x' y',
      node_size-left_join c x y,
      push-size-≤ (trust_floor b) x,
      push-size-≤ no_bound y,
    )
push-size-≤ b (union x y) =
    omega (arith, node_size-union (push b x) (push b y), node_size-union x y, push-size-≤ b x, push-size-≤ b y)
push-size-≤ b (filter c x) = omega (arith, node_size-filter c (push b x), node_size-filter c x, push-size-≤ b x)
push-size-≤ b (project_trust v x) =
    omega (arith, node_size-project_trust v (push b x), node_size-project_trust v x, push-size-≤ b x)
push-size-≤ b (ensure_trust m w x) = omega (arith, node_size-ensure_trust m w x, push-size-≤ (meet b m w) x)

-- ---- variables

-- the variables of patterns stay
pub pattern_variables-push : (b : TrustBound) (q : Node) → pattern_variables (push b q) ≡ pattern_variables q
unfolding pattern_variables push
pattern_variables-push b (pattern_set ps) = wrap-pass pattern_variables (λ l u q. refl) b (pattern_set ps)
pattern_variables-push b (join x y) =
    wrap_below-pass pattern_variables (λ l u q. refl) b (join (push (trust_floor b) x) (push (trust_floor b) y))
    ∙ rw (pattern_variables-push (trust_floor b) x, pattern_variables-push (trust_floor b) y)
pattern_variables-push b (left_join c x y) =
    wrap-pass pattern_variables (λ l u q. refl) b (left_join c (push (trust_floor b) x) (push no_bound y))
    ∙ rw (pattern_variables-push (trust_floor b) x, pattern_variables-push no_bound y)
pattern_variables-push b (union x y) = rw (pattern_variables-push b x, pattern_variables-push b y)
pattern_variables-push b (filter c x) = pattern_variables-push b x
pattern_variables-push b (project_trust v x) = pattern_variables-push b x
pattern_variables-push b (ensure_trust m w x) = pattern_variables-push (meet b m w) x

-- the variables of the project trust nodes in prefix order, without their places
unfoldable pub project_variables : Node → List ℕ
project_variables (pattern_set ps) = []
project_variables (join x y) = project_variables x ++ project_variables y
project_variables (left_join c x y) = project_variables x ++ project_variables y
project_variables (union x y) = project_variables x ++ project_variables y
project_variables (filter c x) = project_variables x
project_variables (project_trust v x) = v ∷ project_variables x
project_variables (ensure_trust l u x) = project_variables x

abbrev pub projected : List TrustProjection → List ℕ
projected ps = map projected_variable ps

-- two operands, one behind the other
projected-two : (i j : ℕ) (x y : Node) → projected (trust_projections i x) ≡ project_variables x
    → projected (trust_projections j y) ≡ project_variables y
    → projected (trust_projections i x ++ trust_projections j y) ≡ project_variables x ++ project_variables y
projected-two i j x y d e = map-append projected_variable (trust_projections i x) (trust_projections j y) ∙ rw (d, e)

-- wherever the node stands
pub trust_projections-variables : (at : ℕ) (q : Node) → projected (trust_projections at q) ≡ project_variables q
unfolding trust_projections project_variables
trust_projections-variables at (pattern_set ps) = refl
trust_projections-variables at (join x y) =
    let next = at + 1 + length (node_bytes x) in
    projected-two (at + 1) next x y (trust_projections-variables (at + 1) x) (trust_projections-variables next y)
trust_projections-variables at (left_join c x y) =
    let first = at + 1 + length (condition_bytes c) in
    let next = first + length (node_bytes x) in
    projected-two first next x y (trust_projections-variables first x) (trust_projections-variables next y)
trust_projections-variables at (union x y) =
    let next = at + 1 + length (node_bytes x) in
    projected-two (at + 1) next x y (trust_projections-variables (at + 1) x) (trust_projections-variables next y)
trust_projections-variables at (filter c x) = trust_projections-variables (at + 1 + length (condition_bytes c)) x
trust_projections-variables at (project_trust v x) = ap (λ (r : List ℕ). v ∷ r) (trust_projections-variables (at + 1) x)
trust_projections-variables at (ensure_trust l u x) = trust_projections-variables (at + 4) x

-- the variables of project trust stay
pub project_variables-push : (b : TrustBound) (q : Node) → project_variables (push b q) ≡ project_variables q
unfolding project_variables push
project_variables-push b (pattern_set ps) = wrap-pass project_variables (λ l u q. refl) b (pattern_set ps)
project_variables-push b (join x y) =
    wrap_below-pass project_variables (λ l u q. refl) b (join (push (trust_floor b) x) (push (trust_floor b) y))
    ∙ rw (project_variables-push (trust_floor b) x, project_variables-push (trust_floor b) y)
project_variables-push b (left_join c x y) =
    wrap-pass project_variables (λ l u q. refl) b (left_join c (push (trust_floor b) x) (push no_bound y))
    ∙ rw (project_variables-push (trust_floor b) x, project_variables-push no_bound y)
project_variables-push b (union x y) = rw (project_variables-push b x, project_variables-push b y)
project_variables-push b (filter c x) = project_variables-push b x
project_variables-push b (project_trust v x) = ap (λ (r : List ℕ). v ∷ r) (project_variables-push b x)
project_variables-push b (ensure_trust m w x) = project_variables-push (meet b m w) x

-- ---- well-formed

pub trust_floor-formed : (b : TrustBound) → BoundFormed b → BoundFormed (trust_floor b)
trust_floor-formed no_bound h = tt
trust_floor-formed (between l u) h = (h.0, le_refl 2000)

pub meet-formed : (b : TrustBound) (m w : ℕ) → BoundFormed b → m ≤ 2000 → w ≤ 2000 → BoundFormed (meet b m w)
meet-formed no_bound m w h i j = (i, j)
meet-formed (between l u) m w h i j = (omega arith, omega arith)

wrap-formed : (b : TrustBound) (q : Node) → BoundFormed b → NodeFormed q → NodeFormed (wrap b q)
wrap-formed no_bound q h f = f
wrap-formed (between l u) q h f = (h.0, h.1, f)

wrap_below-formed : (b : TrustBound) (q : Node) → BoundFormed b → NodeFormed q → NodeFormed (wrap_below b q)
wrap_below-formed no_bound q h f = f
wrap_below-formed (between l u) q h f = go (ltb u 2000)
  where
    go : (t : Bool) → NodeFormed (cond t (ensure_trust l u q) q)
    go true = (h.0, h.1, f)
    go false = f

-- a push of a well-formed node is well-formed
pub push-formed : (b : TrustBound) (q : Node) → BoundFormed b → NodeFormed q → NodeFormed (push b q)
unfolding push
push-formed b (pattern_set ps) h f = wrap-formed b (pattern_set ps) h f
push-formed b (join x y) h f =
    let k = trust_floor-formed b h in
    wrap_below-formed b (join (push (trust_floor b) x) (push (trust_floor b) y)) h
    (push-formed (trust_floor b) x k f.0, push-formed (trust_floor b) y k f.1)
push-formed b (left_join c x y) h f =
    wrap-formed b (left_join c (push (trust_floor b) x) (push no_bound y)) h
    (f.0, push-formed (trust_floor b) x (trust_floor-formed b h) f.1, push-formed no_bound y tt f.2)
push-formed b (union x y) h f = (push-formed b x h f.0, push-formed b y h f.1)
push-formed b (filter c x) h f = (f.0, push-formed b x h f.1)
push-formed b (project_trust v x) h f = (f.0, push-formed b x h f.1)
push-formed b (ensure_trust m w x) h f = push-formed (meet b m w) x (meet-formed b m w h f.0 f.1) f.2

-- ---- pushing again

-- b asks no more than d
abbrev pub Weaker : TrustBound → TrustBound → Type 0
Weaker no_bound d = Unit {0}
Weaker (between l u) no_bound = ⊥
Weaker (between l u) (between m w) = (l ≤ m) × (w ≤ u)

weaker-refl : (b : TrustBound) → Weaker b b
weaker-refl no_bound = tt
weaker-refl (between l u) = (le_refl l, le_refl u)

-- a weaker bound changes no bound
meet-weaker : (b : TrustBound) (m w : ℕ) → Weaker b (between m w) → meet b m w ≡ between m w
meet-weaker no_bound m w h = refl
meet-weaker (between l u) m w h = rw (max-eq_right h.0, min-eq_right h.1)

weaker-meet : (b d : TrustBound) (m w : ℕ) → Weaker b d → Weaker b (meet d m w)
weaker-meet no_bound d m w k = tt
weaker-meet (between l u) no_bound m w k = absurd k
weaker-meet (between l u) (between i j) m w k = (omega arith, omega arith)

push-wrap : (b d : TrustBound) (q : Node) → Weaker b d → push d q ≡ wrap d q → push b (wrap d q) ≡ wrap d q
unfolding push
push-wrap no_bound no_bound q h e = e
push-wrap (between l u) no_bound q h e = absurd h
push-wrap no_bound (between m w) q h e = e
push-wrap (between l u) (between m w) q h e = ap (λ (c : TrustBound). push c q) (meet-weaker (between l u) m w h) ∙ e

push-wrap_below : (b d : TrustBound) (x y : Node) → Weaker b d
    → ((c : TrustBound) → Weaker c (trust_floor d) → (push c x ≡ x) × (push c y ≡ y))
    → push b (wrap_below d (join x y)) ≡ wrap_below d (join x y)
unfolding push
push-wrap_below no_bound no_bound x y h f = rw ((f no_bound tt).0, (f no_bound tt).1)
push-wrap_below (between l u) no_bound x y h f = absurd h
push-wrap_below b (between m w) x y h f = go b (ltb w 2000) refl h
  where
    go : (b : TrustBound) (t : Bool) → ltb w 2000 ≡ t → Weaker b (between m w)
        → push b (cond t (ensure_trust m w (join x y)) (join x y)) ≡ cond t (ensure_trust m w (join x y)) (join x y)
    go b true e k =
        let both = f (between m 2000) (le_refl m, le_refl 2000) in
        rw (meet-weaker b m w k, e, both.0, both.1)
    go no_bound false e k = rw ((f no_bound tt).0, (f no_bound tt).1)
    go (between l u) false e k =
        let high : ltb u 2000 ≡ false = le-ltb u 2000 (omega (arith, ltb-false w 2000 e, k.1)) in
        let both = f (between l 2000) (k.0, le_refl 2000) in
        rw (high, both.0, both.1)

-- what one bound has pushed, a weaker one does not change
pub push-again : (b d : TrustBound) (q : Node) → Weaker b d → push b (push d q) ≡ push d q
unfolding push
push-again b d (pattern_set ps) h = push-wrap b d (pattern_set ps) h refl
push-again b d (join x y) h =
    push-wrap_below b d (push (trust_floor d) x) (push (trust_floor d) y) h
    (λ c k. (push-again c (trust_floor d) x k, push-again c (trust_floor d) y k))
push-again b d (left_join c x y) h =
    push-wrap b d (left_join c (push (trust_floor d) x) (push no_bound y)) h
    (rw (push-again (trust_floor d) (trust_floor d) x (weaker-refl (trust_floor d)), push-again no_bound no_bound y tt))
push-again b d (union x y) h = rw (push-again b d x h, push-again b d y h)
push-again b d (filter c x) h = rw (push-again b d x h)
push-again b d (project_trust v x) h = rw (push-again b d x h)
push-again b d (ensure_trust m w x) h = push-again b (meet d m w) x (weaker-meet b d m w h)

-- a second push changes nothing
pub push-push : (q : Node) → push no_bound (push no_bound q) ≡ push no_bound q
push-push q = push-again no_bound no_bound q tt
