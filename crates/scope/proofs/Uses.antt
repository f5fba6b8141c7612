-- How often a variable is used: by a node itself, by its operands, by nodes one behind the other. It clashes in a query exactly if it is
-- used twice, a pattern counting for two (`uses-clashes`); and the project trust nodes of a query are met on the walk from head to head
-- (`forest_projections-step`). Assumes nothing.
use mathlib.Core.Path.{◌≡◌, refl, sym, ap, ◌∙◌}
use mathlib.Core.Bool.{Bool, true, false, ◌||◌}
use mathlib.Core.List.{List, [], ◌∷◌, ◌++◌, map, append_assoc}
use Prim.Native.Nat.{ℕ, zero, suc, ◌+◌, ◌≤◌}
use native.Mathlib.Omega.{arith}
use borrow.Author.Tests.{lt-ltb, le-ltb, eqb-true, eqb-false, eq-eqb, ne_eqb}
use lib.Dec.{eqb, ltb}
use Rattle.tsparql.specs.Lists.{keep_if, concat_map}
use Rattle.tsparql.specs.Query.{Node, pattern_set, join, left_join, union, filter, project_trust, ensure_trust}
use Rattle.tsparql.specs.Check.{Refusal, refuse, variables_of, pattern_variables, occurrences, clashing, clashes, first_clash}
use Rattle.tsparql.specs.Check.{TrustProjection, projected_variable, trust_projections}
use Rattle.tsparql.proofs.FreeVariables.{occurrences-append}
use Rattle.tsparql.proofs.PushQuery.{project_variables, trust_projections-variables}
use Rattle.tsparql.specs.Writing.{condition_size, node_size}
use Rattle.tsparql.proofs.QuerySize.{node_size-join, node_size-left_join, node_size-union, node_size-filter}
use Rattle.tsparql.proofs.QuerySize.{node_size-project_trust, node_size-ensure_trust}
use Rattle.query.proofs.Forest.{operands_in, operands_at}
use Rattle.scope.specs.Variables.{own_uses, head_variable, projected_clashes}
use Rattle.query.specs.Answers.{node_head}
use Rattle.tsparql.specs.Reading.{query_node}
use Rattle.std.specs.Prelude.{Option, None, Some}

-- ---- uses

unfoldable pub uses : ℕ → Node → ℕ
uses v (pattern_set ps) = own_uses v (pattern_set ps)
uses v (join x y) = uses v x + uses v y
uses v (left_join c x y) = uses v x + uses v y
uses v (union x y) = uses v x + uses v y
uses v (filter c x) = uses v x
uses v (project_trust w x) = own_uses v (project_trust w x) + uses v x
uses v (ensure_trust l u x) = uses v x

abbrev pub forest_uses : ℕ → List Node → ℕ
forest_uses v [] = 0
forest_uses v (x ∷ xs) = uses v x + forest_uses v xs

forest_uses-append : (v : ℕ) (xs ys : List Node) → forest_uses v (xs ++ ys) ≡ forest_uses v xs + forest_uses v ys
forest_uses-append v [] ys = omega arith
forest_uses-append v (x ∷ xs) ys = omega (arith, forest_uses-append v xs ys)

-- a node's uses are its own and its operands'
uses-operands : (v : ℕ) (x : Node) → uses v x ≡ own_uses v x + forest_uses v (operands_in x)
unfolding uses
uses-operands v (pattern_set ps) = omega arith
uses-operands v (join x y) = omega arith
uses-operands v (left_join c x y) = omega arith
uses-operands v (union x y) = omega arith
uses-operands v (filter c x) = omega arith
uses-operands v (project_trust w x) = omega arith
uses-operands v (ensure_trust l u x) = omega arith

pub forest_uses-step : (v : ℕ) (x : Node) (xs : List Node)
    → forest_uses v (x ∷ xs) ≡ own_uses v x + forest_uses v (operands_in x ++ xs)
forest_uses-step v x xs = omega (arith, uses-operands v x, forest_uses-append v (operands_in x) xs)

-- ---- uses and clashes

-- in no pattern: the uses are the projections; in a pattern: two at least
pub record UsesAre (v : ℕ) (x : Node) : Type 0 where
  pub no-pattern : occurrences v (pattern_variables x) ≡ 0 → uses v x ≡ occurrences v (project_variables x)
  pub some_pattern : 1 ≤ occurrences v (pattern_variables x) → 2 ≤ uses v x

two-uses : (v : ℕ) (x y q : Node) → uses v q ≡ uses v x + uses v y → pattern_variables q ≡ pattern_variables x ++ pattern_variables y
    → project_variables q ≡ project_variables x ++ project_variables y → UsesAre v x → UsesAre v y → UsesAre v q
two-uses v x y q u p t hx hy =
    let ps = ap (occurrences v) p ∙ occurrences-append v (pattern_variables x) (pattern_variables y) in
    let ts = ap (occurrences v) t ∙ occurrences-append v (project_variables x) (project_variables y) in
    record {
      no-pattern = λ z. omega (arith, u, ts, hx.no-pattern (omega arith), hy.no-pattern (omega arith));
      some_pattern = λ l. some (occurrences v (pattern_variables x)) refl l ps;
    }
  where
    some : (n : ℕ) → occurrences v (pattern_variables x) ≡ n → 1 ≤ occurrences v (pattern_variables q)
        → occurrences v (pattern_variables q) ≡ occurrences v (pattern_variables x) + occurrences v (pattern_variables y) → 2 ≤ uses v q
    some zero e l ps = omega (arith, u, hy.some_pattern (omega arith))
    some (suc n) e l ps = omega (arith, u, hx.some_pattern (omega arith))

uses-are : (v : ℕ) (x : Node) → UsesAre v x
unfolding uses pattern_variables project_variables
uses-are v (pattern_set ps) =
    record {
      no-pattern = λ z. rw (le-ltb 0 (occurrences v (concat_map variables_of ps)) (omega arith));
      some_pattern = λ l. rw (lt-ltb 0 (occurrences v (concat_map variables_of ps)) l) (omega arith);
    }
uses-are v (join x y) = two-uses v x y (join x y) refl refl refl (uses-are v x) (uses-are v y)
uses-are v (left_join c x y) = two-uses v x y (left_join c x y) refl refl refl (uses-are v x) (uses-are v y)
uses-are v (union x y) = two-uses v x y (union x y) refl refl refl (uses-are v x) (uses-are v y)
uses-are v (filter c x) = let h = uses-are v x in record { no-pattern = h.no-pattern; some_pattern = h.some_pattern }
uses-are v (project_trust w x) = go (eqb w v) refl (uses-are v x)
  where
    go : (b : Bool) → eqb w v ≡ b → UsesAre v x → UsesAre v (project_trust w x)
    go true e h =
        let same : eqb v w ≡ true = eq-eqb v w (sym (eqb-true w v e)) in
        record {
          no-pattern = λ z. rw (e, same) (omega (arith, h.no-pattern z));
          some_pattern = λ l. rw e (omega (arith, h.some_pattern l));
        }
    go false e h =
        let other : eqb v w ≡ false = ne_eqb v w (λ d. eqb-false w v e (sym d)) in
        record {
          no-pattern = λ z. rw (e, other) (omega (arith, h.no-pattern z));
          some_pattern = λ l. rw e (omega (arith, h.some_pattern l));
        }
uses-are v (ensure_trust l u x) = let h = uses-are v x in record { no-pattern = h.no-pattern; some_pattern = h.some_pattern }

-- two uses, and only they, are a clash
pub uses-clashes : (v : ℕ) (q : Node)
    → clashing (pattern_variables q) (map projected_variable (trust_projections 0 q)) v ≡ ltb 1 (uses v q)
uses-clashes v q = rw (trust_projections-variables 0 q) (go (occurrences v (pattern_variables q)) refl)
  where
    go : (n : ℕ) → occurrences v (pattern_variables q) ≡ n
        → ltb 0 (occurrences v (pattern_variables q)) || ltb 1 (occurrences v (project_variables q)) ≡ ltb 1 (uses v q)
    go zero e = rw (le-ltb 0 (occurrences v (pattern_variables q)) (omega arith), (uses-are v q).no-pattern e)
    go (suc n) e =
        rw (lt-ltb 0 (occurrences v (pattern_variables q)) (omega arith), lt-ltb 1 (uses v q) ((uses-are v q).some_pattern (omega arith)))

-- ---- the project trust nodes, on the walk

abbrev pub forest_projections : ℕ → List Node → List TrustProjection
forest_projections at [] = []
forest_projections at (x ∷ xs) = trust_projections at x ++ forest_projections (at + node_size x) xs

-- a node's own projection, by the variable that it projects its trust to
abbrev pub own_projection : ℕ → Option ℕ → List TrustProjection
own_projection at None = []
own_projection at (Some v) = record { place = at; variable = v } ∷ []

-- two operands from a place on, and the nodes behind them
two-projections : (at i j k : ℕ) (x y : Node) (xs : List Node) → at ≡ i → i + node_size x ≡ j → j + node_size y ≡ k
    → (trust_projections i x ++ trust_projections j y) ++ forest_projections k xs ≡ forest_projections at (x ∷ y ∷ xs)
two-projections at i j k x y xs d e f =
    append_assoc (trust_projections i x) (trust_projections j y) (forest_projections k xs) ∙ rw (d, e, f)

one-projection : (at i k : ℕ) (x : Node) (xs : List Node) → at ≡ i → i + node_size x ≡ k
    → trust_projections i x ++ forest_projections k xs ≡ forest_projections at (x ∷ xs)
one-projection at i k x xs d e = rw (d, e)

-- a node's projections are its own and its operands'
pub forest_projections-step : (at : ℕ) (x : Node) (xs : List Node)
    → forest_projections at (x ∷ xs)
    ≡ own_projection at (head_variable (node_head x)) ++ forest_projections (at + operands_at x (node_size x)) (operands_in x ++ xs)
unfolding trust_projections
forest_projections-step at (pattern_set ps) xs = refl
forest_projections-step at (join x y) xs =
    two-projections (at + 1) (at + 1) (at + 1 + node_size x) (at + node_size (join x y)) x y xs refl refl
    (omega (arith, node_size-join x y))
forest_projections-step at (left_join c x y) xs =
    let first = at + 1 + condition_size c in
    two-projections (at + (1 + condition_size c)) first (first + node_size x) (at + node_size (left_join c x y)) x y xs (omega arith) refl
    (omega (arith, node_size-left_join c x y))
forest_projections-step at (union x y) xs =
    two-projections (at + 1) (at + 1) (at + 1 + node_size x) (at + node_size (union x y)) x y xs refl refl
    (omega (arith, node_size-union x y))
forest_projections-step at (filter c x) xs =
    one-projection (at + (1 + condition_size c)) (at + 1 + condition_size c) (at + node_size (filter c x)) x xs (omega arith)
    (omega (arith, node_size-filter c x))
forest_projections-step at (project_trust v x) xs =
    ap (λ (r : List TrustProjection). record { place = at; variable = v } ∷ r)
    (one-projection (at + 1) (at + 1) (at + node_size (project_trust v x)) x xs refl (omega (arith, node_size-project_trust v x)))
forest_projections-step at (ensure_trust l u x) xs =
    one-projection (at + 4) (at + 4) (at + node_size (ensure_trust l u x)) x xs refl (omega (arith, node_size-ensure_trust l u x))

-- ---- the loop's steps

-- 7 at the first of the project trust nodes whose variable clashes
abbrev pub clash_among : List ℕ → List TrustProjection → Refusal
clash_among s ps = first_clash (keep_if (clashes (query_node s)) ps)

-- it is at a node whose variable clashes, and else behind it
module _ (s : List ℕ) (at : ℕ) (ps : List TrustProjection) where
  pub clash-here : (o : Option ℕ) → projected_clashes s o ≡ true → clash_among s (own_projection at o ++ ps) ≡ refuse 7 at
  clash-here None e = cc
  clash-here (Some v) e = rw e

  pub clash-behind : (o : Option ℕ) → projected_clashes s o ≡ false → clash_among s (own_projection at o ++ ps) ≡ clash_among s ps
  clash-behind None e = refl
  clash-behind (Some v) e = rw e
