-- The definitions' reader of a node is its own part, the head with what stands before its operands, and then the operands (`node-parts`);
-- no place is behind the end. Assumes nothing.
use mathlib.Core.Path.{◌≡◌, refl, sym, ap, ◌∙◌}
use mathlib.Core.Bool.{Bool, true, false, ◌&&◌}
use mathlib.Core.List.{List}
use Prim.Native.Nat.{ℕ, ◌+◌, ◌-◌, ◌/◌, ◌%◌, ◌≤◌}
use native.Mathlib.Omega.{arith}
use borrow.Author.Tests.{eqb-false, leb-true}
use lib.Dec.{eqb, leb}
use lib.ListN.{length, drop, length-drop}
use Rattle.tsparql.specs.Query.{Pattern, Condition, Node, pattern_set, join, left_join, union, filter, project_trust, ensure_trust}
use Rattle.tsparql.specs.Reading.{Read, got, fault, and_then, require, kind_of, low_of, bits24, read_patterns, read_condition}
use Rattle.tsparql.specs.Reading.{one_node, two_nodes, after_condition, bounded_node, node_step, read_node}
use Rattle.tsparql.specs.Lists.{concat_map}
use Rattle.tsparql.specs.Writing.{pattern_bytes, node_bytes}
use Rattle.tsparql.specs.WellFormed.{NodeFormed}
use Rattle.tsparql.proofs.ListLaws.{and_left}
use Rattle.tsparql.proofs.ReaderSteps.{read_node-step}
use Rattle.tsparql.proofs.WrittenRead.{Reads, PatternsFormed, read_patterns-sound, read_node-sound}
use Rattle.heads.specs.declared.Head.{Head}
use Rattle.heads.specs.declared.Head.TheVariants as H
use Rattle.heads.specs.Parts.{bounds_head, plain_head, node_head_read, node_operands}
use Rattle.query.specs.Answers.{node_head}
use Rattle.query.specs.Parts.{map_read, placed, shift, follow, conditions_from, patterns_from, before_operands, own_read, nodes_from}
use Rattle.query.proofs.ReadLaws.{place_of, place_of-map, by_kind, no_kind, cond_cases, require-cases, fault-not-got}
use Rattle.query.proofs.ReadLaws.{one-part, two-parts, from-fault, from_next, reads-inside}
use Rattle.query.proofs.ConditionParts.{condition-inside}

-- what stands behind a head's own bytes, to the last operand
abbrev nodes_after : List ℕ → Head → ℕ → Read (Unit {0})
nodes_after s h own = follow (before_operands s h own) (λ _ at. nodes_from (node_operands h) at s)

-- ---- operands

one-node : (s : List ℕ) (at : ℕ) (f : Node → Node) (h : Head) → ((x : Node) → node_head (f x) ≡ h)
    → map_read node_head (one_node read_node s at f) ≡ map_read (λ _. h) (nodes_from 1 at s)
unfolding nodes_from
one-node s at f h e = one-part node_head h at f e (read_node (drop at s))

two-nodes : (s : List ℕ) (at : ℕ) (f : Node → Node → Node) (h : Head) → ((x y : Node) → node_head (f x y) ≡ h)
    → map_read node_head (two_nodes read_node s at f) ≡ map_read (λ _. h) (nodes_from 2 at s)
unfolding nodes_from
two-nodes s at f h e = two-parts node_head h (λ mid. read_node (drop mid s)) at f e (read_node (drop at s))

-- a condition first
after-condition : (s : List ℕ) (n : ℕ) (k : Condition → ℕ → Read Node) (h : Head)
    → ((c : Condition) (at : ℕ) → map_read node_head (k c at) ≡ map_read (λ _. h) (nodes_from n at s))
    → map_read node_head (after_condition s k) ≡ map_read (λ _. h) (follow (conditions_from 1 1 s) (λ _ at. nodes_from n at s))
unfolding conditions_from
after-condition s n k h e = go (read_condition (drop 1 s))
  where
    go : (r : Read Condition)
        → map_read node_head (and_then 1 r k)
        ≡ map_read (λ _. h) (follow (follow (shift 1 r) (λ c mid. got (tt {0}) mid)) (λ _ at. nodes_from n at s))
    go (got c m) = e c (1 + m)
    go (fault p) = refl

-- a pattern set's head has as many patterns as were read
set-parts : (s : List ℕ) (n : ℕ)
    → map_read node_head (and_then 1 (read_patterns n (drop 1 s)) (λ ps next. got (pattern_set ps) next))
    ≡ map_read (λ _. H.PatternSet n) (follow (patterns_from n 1 s) (λ _ at. nodes_from 0 at s))
unfolding nodes_from
set-parts s n = go (read_patterns n (drop 1 s)) (read_patterns-sound n (drop 1 s))
  where
    go : (r : Read (List Pattern)) → Reads (PatternsFormed n) (concat_map pattern_bytes) (drop 1 s) r
        → map_read node_head (and_then 1 r (λ ps next. got (pattern_set ps) next))
        ≡ map_read (λ _. H.PatternSet n) (follow (placed (shift 1 r)) (λ _ at. got (tt {0}) at))
    go (got ps m) h = rw h.0.0
    go (fault p) h = refl

-- ---- the reader

require-parts : {A B C : Type 0} (f : A → B) (b : Bool) (r : Read A) (x : Read C) (k : C → ℕ → Read B)
    → map_read f r ≡ follow x k → map_read f (require b r) ≡ follow (require b x) k
require-parts f true r x k e = e
require-parts f false r x k e = refl

-- a head with the place behind its operands
abbrev head_after : List ℕ → Head → ℕ → Read Head
head_after s h own = map_read (λ _. h) (nodes_after s h own)

-- the head, and what stands behind its own bytes
head-parts : (s : List ℕ) → map_read node_head (read_node s) ≡ follow (node_head_read s) (head_after s)
unfolding node_step node_head_read
head-parts s = ap (map_read node_head) (read_node-step s) ∙ go (eqb (length s) 0) refl
  where
    low : Bool
    low = eqb (low_of s) 0

    lower : ℕ
    lower = bits24 s 1 / 4096

    upper : ℕ
    upper = bits24 s 1 % 4096

    none : (b : Bool) → fault 0 ≡ follow (require b (fault 0)) (head_after s)
    none true = refl
    none false = refl

    left : map_read node_head (after_condition s (λ c at. two_nodes read_node s at (left_join c))) ≡ head_after s H.LeftJoin 1
    left =
        after-condition s 2 (λ c at. two_nodes read_node s at (left_join c)) H.LeftJoin
        (λ c at. two-nodes s at (left_join c) H.LeftJoin (λ x y. refl))

    filtered : map_read node_head (after_condition s (λ c at. one_node read_node s at (filter c))) ≡ head_after s H.Filter 1
    filtered =
        after-condition s 1 (λ c at. one_node read_node s at (filter c)) H.Filter
        (λ c at. one-node s at (filter c) H.Filter (λ x. refl))

    go : (b : Bool) → eqb (length s) 0 ≡ b → map_read node_head (node_step read_node s) ≡ follow (node_head_read s) (head_after s)
    go true e = rw e
    go false e =
        by_kind (kind_of s)
        (λ k. rw (e, k) (set-parts s (low_of s)))
        (λ k. rw (e, k)
        (require-parts node_head low (two_nodes read_node s 1 join) (got H.Join 1) (head_after s) (two-nodes s 1 join H.Join (λ x y. refl))))
        (λ k. rw (e, k)
        (require-parts node_head low (after_condition s (λ c at. two_nodes read_node s at (left_join c))) (got H.LeftJoin 1) (head_after s) left))
        (λ k. rw (e, k)
        (require-parts node_head low (two_nodes read_node s 1 union) (got H.Union 1) (head_after s)
        (two-nodes s 1 union H.Union (λ x y. refl))))
        (λ k. rw (e, k)
        (require-parts node_head low (after_condition s (λ c at. one_node read_node s at (filter c))) (got H.Filter 1) (head_after s) filtered))
        (λ k. rw (e, k) (one-node s 1 (project_trust (low_of s)) (H.ProjectTrust (low_of s)) (λ x. refl)))
        (λ k. rw (e, k)
        (require-parts node_head low (bounded_node read_node s)
        (require (leb 4 (length s) && leb lower 2000 && leb upper 2000) (got (H.EnsureTrust lower upper) 4)) (head_after s)
        (require-parts node_head (leb 4 (length s) && leb lower 2000 && leb upper 2000) (one_node read_node s 4 (ensure_trust lower upper))
        (got (H.EnsureTrust lower upper) 4) (head_after s)
        (one-node s 4 (ensure_trust lower upper) (H.EnsureTrust lower upper) (λ x. refl)))))
        (λ k. rw (e, k) (none low))
        (λ k. rw (
          e,
          no_kind k 0 (omega arith),
          no_kind k 1 (omega arith),
          no_kind k 2 (omega arith),
          no_kind k 3 (omega arith),
          no_kind k 4 (omega arith),
          no_kind k 5 (omega arith),
          no_kind k 6 (omega arith),
        ) (none low))

-- the operands of a head, from a place on
abbrev pub operands_from : List ℕ → Head → ℕ → Read (Unit {0})
operands_from s h at = nodes_from (node_operands h) at s

-- the node's own part, and then its operands
pub node-parts : (s : List ℕ) → map_read node_head (read_node s) ≡ follow (own_read s) (λ h at. map_read (λ _. h) (operands_from s h at))
node-parts s = head-parts s ∙ go (node_head_read s)
  where
    go : (r : Read Head)
        → follow r (head_after s)
        ≡ follow (follow r (λ h own. map_read (λ _. h) (before_operands s h own))) (λ h at. map_read (λ _. h) (operands_from s h at))
    go (got h own) = before (before_operands s h own)
      where
        before : (b : Read (Unit {0}))
            → map_read (λ _. h) (follow b (λ _ at. operands_from s h at))
            ≡ follow (map_read (λ _. h) b) (λ h at. map_read (λ _. h) (operands_from s h at))
        before (got u at) = refl
        before (fault p) = refl
    go (fault p) = refl

-- ---- places

pub node-inside : (s : List ℕ) → place_of (read_node s) ≤ length s
node-inside s = reads-inside NodeFormed node_bytes s (read_node s) (read_node-sound s)

-- a head's own bytes are there, one at least
abbrev HeadInside : ℕ → Read Head → Type 0
HeadInside n (got h own) = (1 ≤ own) × (own ≤ n)
HeadInside n (fault p) = Unit {0}

bounds-inside : (s : List ℕ) (n : ℕ) → HeadInside (length s) (bounds_head s n)
bounds-inside s n =
    require-cases (HeadInside (length s)) (eqb n 0) (require test head) tt
    (λ _. require-cases (HeadInside (length s)) test head tt λ t. (omega arith, long t))
  where
    low : Bool
    low = leb (bits24 s 1 / 4096) 2000

    high : Bool
    high = leb (bits24 s 1 % 4096) 2000

    test : Bool
    test = leb 4 (length s) && low && high

    head : Read Head
    head = got (H.EnsureTrust (bits24 s 1 / 4096) (bits24 s 1 % 4096)) 4

    long : test ≡ true → 4 ≤ length s
    long t = leb-true 4 (length s) (and_left (leb 4 (length s)) low (and_left (leb 4 (length s) && low) high t))

plain-inside : (n kind low : ℕ) → 1 ≤ n → HeadInside n (plain_head kind low)
plain-inside n kind low h =
    require-cases P (eqb low 0) _ tt
    λ _. cond_cases P (eqb kind 1) _ _ (λ _. (omega arith, h))
    λ _. cond_cases P (eqb kind 2) _ _ (λ _. (omega arith, h))
    λ _. cond_cases P (eqb kind 3) _ _ (λ _. (omega arith, h))
    λ _. cond_cases P (eqb kind 4) _ _ (λ _. (omega arith, h)) (λ _. tt)
  where
    P : Read Head → Type 0
    P = HeadInside n

head-inside : (s : List ℕ) → HeadInside (length s) (node_head_read s)
unfolding node_head_read
head-inside s =
    cond_cases P (eqb (length s) 0) _ _ (λ _. tt)
    λ e. let long : 1 ≤ length s = omega (arith, eqb-false (length s) 0 e) in
    cond_cases P (eqb (kind_of s) 0) _ _ (λ _. (omega arith, long))
    λ _. cond_cases P (eqb (kind_of s) 5) _ _ (λ _. (omega arith, long))
    λ _. cond_cases P (eqb (kind_of s) 6) _ _ (λ _. bounds-inside s (low_of s)) (λ _. plain-inside (length s) (kind_of s) (low_of s) long)
  where
    P : Read Head → Type 0
    P = HeadInside (length s)

pub node-head-inside : (s : List ℕ) {h : Head} {own : ℕ} → node_head_read s ≡ got h own
    → (1 ≤ own) × (own ≤ length s)
node-head-inside s e = rw e at (head-inside s)

-- ---- the code's steps

pub nodes-none : (s : List ℕ) (at : ℕ) → nodes_from 0 at s ≡ got tt at
unfolding nodes_from
nodes-none s at = refl

pub nodes-fault : (s : List ℕ) (n at p : ℕ) → 1 ≤ n → map_read node_head (read_node (drop at s)) ≡ fault p → nodes_from n at s ≡ fault (at + p)
unfolding nodes_from
nodes-fault = from-fault node_head read_node nodes_from (λ n at s. refl)

pub nodes-next : (s : List ℕ) (n at k : ℕ) (h : Head) → 1 ≤ n → map_read node_head (read_node (drop at s)) ≡ got h k
    → nodes_from n at s ≡ nodes_from (n - 1) (at + k) s
unfolding nodes_from
nodes-next = from_next node_head read_node nodes_from (λ n at s. refl)

-- ---- what stands before the operands

-- a reader from a place on stays inside
shift-inside : {A : Type 0} (s : List ℕ) (at : ℕ) (r : Read A) → at ≤ length s → place_of r ≤ length (drop at s)
    → (at ≤ place_of (placed (shift at r))) × (place_of (placed (shift at r)) ≤ length s)
shift-inside s at (got a n) l h = (omega arith, omega (arith, length-drop at s))
shift-inside s at (fault p) l h = (omega arith, omega (arith, length-drop at s))

patterns-inside : (n : ℕ) (s : List ℕ) → place_of (read_patterns n s) ≤ length s
patterns-inside n s = reads-inside (PatternsFormed n) (concat_map pattern_bytes) s (read_patterns n s) (read_patterns-sound n s)

pub one-condition : (s : List ℕ) (at : ℕ) → conditions_from 1 at s ≡ placed (shift at (read_condition (drop at s)))
unfolding conditions_from
one-condition s at = go (read_condition (drop at s))
  where
    go : (r : Read Condition) → follow (shift at r) (λ c mid. got (tt {0}) mid) ≡ placed (shift at r)
    go (got c n) = refl
    go (fault p) = refl

condition-after : (s : List ℕ) (at : ℕ) → at ≤ length s
    → (at ≤ place_of (conditions_from 1 at s)) × (place_of (conditions_from 1 at s) ≤ length s)
condition-after s at l = rw (one-condition s at) (shift-inside s at (read_condition (drop at s)) l (condition-inside (drop at s)))

before-inside : (s : List ℕ) (h : Head) (own : ℕ) → own ≤ length s
    → (own ≤ place_of (before_operands s h own)) × (place_of (before_operands s h own) ≤ length s)
before-inside s (H.PatternSet n) own l = shift-inside s own (read_patterns n (drop own s)) l (patterns-inside n (drop own s))
before-inside s H.Join own l = (omega arith, l)
before-inside s H.LeftJoin own l = condition-after s own l
before-inside s H.Union own l = (omega arith, l)
before-inside s H.Filter own l = condition-after s own l
before-inside s (H.ProjectTrust v) own l = (omega arith, l)
before-inside s (H.EnsureTrust a u) own l = (omega arith, l)

pub own-inside : (s : List ℕ) {h : Head} {at : ℕ} → own_read s ≡ got h at → (1 ≤ at) × (at ≤ length s)
own-inside s {h} {at} e = go (node_head_read s) refl
  where
    go : (r : Read Head) → node_head_read s ≡ r → (1 ≤ at) × (at ≤ length s)
    go (got g own) d =
        let head = node-head-inside s d in
        let inside = before-inside s g own head.1 in
        let is : place_of (before_operands s g own) ≡ at =
        sym (place_of-map (λ _. g) (before_operands s g own)) ∙ ap place_of (rw d at e) in
        (omega arith, omega arith)
    go (fault p) d = absurd (fault-not-got (rw d at e))
