-- A walk from head to head passes every node in prefix order (`forest_step`). What the loops over nodes keep, and their steps: the uses of
-- the nodes left (`UsesLeft`), the first clash among them (`ClashLeft`). Assumes nothing.
use mathlib.Core.Path.{◌≡◌, refl, sym, ap, ◌∙◌, subst}
use mathlib.Core.Bool.{true, false, cond}
use mathlib.Core.List.{List, [], ◌∷◌, ◌++◌, append-nil}
use Prim.Native.Nat.{ℕ, ◌+◌, ◌-◌, ◌≤◌, ◌<◌}
use native.Mathlib.Nat.{add_assoc}
use native.Mathlib.Omega.{arith}
use borrow.Author.Tests.{lt-ltb, le-ltb}
use lib.Dec.{eqb}
use lib.ListN.{length, take, drop, length-drop}
use Rattle.std.proofs.lemmas.List.{take_rest}
use lib.Seq.{drop-drop}
use Rattle.tsparql.specs.Query.{Node, pattern_set, join, left_join, union, filter, project_trust, ensure_trust}
use Rattle.tsparql.specs.Reading.{Read, got, fault, read_node, query_node}
use Rattle.tsparql.specs.Check.{refuse, no_refusal, TrustProjection, trust_projections, variables_refusal}
use Rattle.tsparql.specs.Writing.{node_size}
use Rattle.tsparql.proofs.QuerySize.{node_size-positive}
use Rattle.tsparql.proofs.WrittenRead.{ReadsNode, read_node-sound}
use Rattle.query.specs.Answers.{node_head}
use Rattle.heads.specs.declared.Head.{Head}
use Rattle.heads.specs.declared.Head.TheVariants as H
use Rattle.heads.specs.Parts.{node_head_read}
use Rattle.query.specs.Parts.{placed}
use Rattle.query.specs.Found.{PatternsSound, NodeSound, node_of, next_node, QuerySound}
use Rattle.query.proofs.ReadLaws.{fault-not-got}
use Rattle.query.proofs.Forest.{ReadsAll, reads_all-inside, operands_in, operands_at, operands_at-positive, PatternsRead, NodeFound}
use Rattle.query.proofs.Forest.{query-reads, node-found, own_read_lem, read-size}
use Rattle.query.proofs.Operands.{sound-found}
use Rattle.scope.specs.Variables.{has, patterns_of, own_uses, head_variable, found_variable, projected_in, clashes_with, clash_at}
use Rattle.scope.proofs.Uses.{uses, forest_uses, forest_uses-step, uses-clashes, forest_projections, own_projection}
use Rattle.scope.proofs.Uses.{forest_projections-step, clash_among, clash-here, clash-behind}

-- ---- from head to head

reads_all-shift : (s : List ℕ) (by at : ℕ) (xs : List Node) (end : ℕ) → ReadsAll (drop by s) at xs end → ReadsAll s (by + at) xs (by + end)
reads_all-shift s by at [] end h = ap (λ n. by + n) h
reads_all-shift s by at (x ∷ xs) end h =
    (h.0, ap read_node (sym (drop-drop at by s)) ∙ h.1, rw (add_assoc by at h.0) (reads_all-shift s by (at + h.0) xs end h.2))

reads_all-append : (s : List ℕ) (at : ℕ) (xs ys : List Node) (mid end : ℕ) → ReadsAll s at xs mid → ReadsAll s mid ys end
    → ReadsAll s at (xs ++ ys) end
reads_all-append s at [] ys mid end h k = rw h k
reads_all-append s at (x ∷ xs) ys mid end h k = (h.0, h.1, reads_all-append s (at + h.0) xs ys mid end h.2 k)

-- the head of the first node, and then its operands and the nodes behind it
pub forest_step : (s : List ℕ) (at : ℕ) (x : Node) (xs : List Node) (end : ℕ) (h : ReadsAll s at (x ∷ xs) end)
    → NodeFound (drop at s) x h.0 × ReadsAll s (at + operands_at x h.0) (operands_in x ++ xs) end
forest_step s at x xs end h =
    let f = node-found (drop at s) x h.0 h.1 in (
      f,
      reads_all-append s (at + operands_at x h.0) (operands_in x) xs (at + h.0) end
          (reads_all-shift s at (operands_at x h.0) (operands_in x) h.0 f.operands-are) h.2,
    )

-- at the end there is no node left
pub forest-end : (s : List ℕ) (at : ℕ) (xs : List Node) → length s ≤ at → ReadsAll s at xs (length s) → xs ≡ []
forest-end s at [] l h = refl
forest-end s at (x ∷ xs) l h =
    absurd (omega (
      arith,
      read-size (drop at s) x h.0 h.1,
      node_size-positive x,
      inside (read_node (drop at s)) h.1 (read_node-sound (drop at s)),
      length-drop at s,
    ))
  where
    inside : (r : Read Node) → r ≡ got x h.0 → ReadsNode (drop at s) r → h.0 ≤ length (drop at s)
    inside (got y m) d w = let k : m ≡ h.0 = cc in omega (arith, w.1.inside)
    inside (fault p) d w = absurd (fault-not-got d)

-- ---- the nodes left on a walk

pub record NodesLeft (s : List ℕ) (at : ℕ) : Type 0 where
  pub forest : List Node
  pub reads : ReadsAll s at forest (length s)

walk-start : (s : List ℕ) → QuerySound s → NodesLeft s 0
walk-start s h = record { forest = query_node s ∷ []; reads = query-reads s h }

-- before the end there is a node
record NodeHere {s : List ℕ} {at : ℕ} (left : NodesLeft s at) : Type 0 where
  node : Node
  behind : List Node
  is : left.forest ≡ node ∷ behind
  end : ℕ
  read : read_node (drop at s) ≡ got node end
  head : projected_in (drop at s) ≡ head_variable (node_head node)
  next : next_node (drop at s) ≡ got tt (operands_at node (node_size node))
  reads : ReadsAll s (at + operands_at node (node_size node)) (operands_in node ++ behind) (length s)

module _ {s : List ℕ} {at : ℕ} (left : NodesLeft s at) (l : at < length s) where
  node-here : NodeHere left
  node-here = go left.forest left.reads refl
    where
      go : (xs : List Node) → ReadsAll s at xs (length s) → left.forest ≡ xs → NodeHere left
      go [] h e = absurd (omega (arith, h))
      go (x ∷ xs) h e =
          let step = forest_step s at x xs (length s) h in
          let size = read-size (drop at s) x h.0 h.1 in
          record {
            node = x;
            behind = xs;
            is = e;
            end = h.0;
            read = h.1;
            head = ap found_variable step.0.head-is;
            next = ap placed (own_read_lem step.0) ∙ ap (λ m. got (tt {0}) (operands_at x m)) size;
            reads = subst (λ m. ReadsAll s (at + operands_at x m) (operands_in x ++ xs) (length s)) size step.1;
          }

  -- the part from there on has a next node
  pub next-found : {p : ℕ} → fault p ≡ next_node (take (length s - at) (drop at s)) → ⊥
  next-found e = fault-not-got ((rw take_rest at e) ∙ node-here.next)

  module _ {k : ℕ} (e : got tt k ≡ next_node (take (length s - at) (drop at s))) where
    next_place_lem : operands_at node-here.node (node_size node-here.node) ≡ k
    next_place_lem = let d = (rw take_rest at e) ∙ node-here.next in cc

    next-nodes : NodesLeft s (at + k)
    next-nodes = record { forest = operands_in node-here.node ++ node-here.behind; reads = rw next_place_lem at node-here.reads }

    -- its place lies behind this one's head, and in the query
    pub next-inside : (1 ≤ k) × (at + k ≤ length s)
    next-inside = (
      omega (arith, next_place_lem, operands_at-positive node-here.node),
      reads_all-inside s (at + k) next-nodes.forest (length s) next-nodes.reads,
    )

-- at the end none is left
none-left : {s : List ℕ} {at : ℕ} (left : NodesLeft s at) → length s ≤ at → left.forest ≡ []
none-left {s} {at} left l = forest-end s at left.forest l left.reads

-- ---- a node by its head

-- how a node uses a variable, by its head
abbrev pub head_uses : ℕ → List ℕ → ℕ → Head → ℕ
head_uses v s own (H.PatternSet n) = cond (has v (patterns_of n own s)) 2 0
head_uses v s own (H.ProjectTrust w) = cond (eqb w v) 1 0
head_uses v s own _ = 0

-- the patterns behind a pattern set's head have no fault
abbrev pub HeadPatterns : List ℕ → ℕ → Head → Type 0
HeadPatterns s own (H.PatternSet n) = PatternsSound n own s
HeadPatterns s own _ = Unit {0}

pub record HeadOfNode (v : ℕ) (s : List ℕ) (own : ℕ) (h : Head) : Type 0 where
  pub uses-are : own_uses v (node_of s) ≡ head_uses v s own h
  pub patterns-sound : HeadPatterns s own h

by-node : (v : ℕ) (s : List ℕ) (own : ℕ) (x : Node) → node_of s ≡ x → PatternsRead s own x → HeadOfNode v s own (node_head x)
by-node v s own (pattern_set ps) e r = record { uses-are = rw (e, r.1); patterns-sound = rw r.1 tt }
by-node v s own (join x y) e r = record { uses-are = rw e; patterns-sound = tt }
by-node v s own (left_join c x y) e r = record { uses-are = rw e; patterns-sound = tt }
by-node v s own (union x y) e r = record { uses-are = rw e; patterns-sound = tt }
by-node v s own (filter c x) e r = record { uses-are = rw e; patterns-sound = tt }
by-node v s own (project_trust w x) e r = record { uses-are = rw e; patterns-sound = tt }
by-node v s own (ensure_trust l u x) e r = record { uses-are = rw e; patterns-sound = tt }

pub head-of-node : (v : ℕ) (s : List ℕ) {own : ℕ} {h : Head} → NodeSound s → node_head_read s ≡ got h own → HeadOfNode v s own h
head-of-node v s {own} {h} sound e =
    let f = sound-found s sound in
    let head : node_head (node_of s) ≡ h = cc f.head-is in
    let place : f.own ≡ own = cc f.head-is in
    subst (HeadOfNode v s own) head (by-node v s own (node_of s) refl (rw place at f.patterns-are))

pub head-sound : (s : List ℕ) {p : ℕ} → NodeSound s → node_head_read s ≡ fault p → ⊥
head-sound s sound e = fault-not-got (sym e ∙ (sound-found s sound).head-is)

-- ---- the uses of the nodes left

pub record UsesLeft (v : ℕ) (s : List ℕ) (at seen : ℕ) : Type 0 where
  pub nodes : NodesLeft s at
  pub total : uses v (query_node s) ≡ seen + forest_uses v nodes.forest
  pub few : seen ≤ 1

pub uses-start : (v : ℕ) (s : List ℕ) → QuerySound s → UsesLeft v s 0 0
unfolding walk-start
uses-start v s h = record { nodes = walk-start s h; total = omega arith; few = omega arith }

module _ {v : ℕ} {s : List ℕ} {at seen : ℕ} (h : UsesLeft v s at seen) where
  pub uses-sound : at < length s → NodeSound (take (length s - at) (drop at s))
  uses-sound l = rw (take_rest, (node-here h.nodes l).read) tt

  module _ (l : at < length s) {own : ℕ} (o : own ≡ own_uses v (node_of (take (length s - at) (drop at s)))) where
    -- the uses of this node, and of those behind its head
    split : let n = node-here h.nodes l in uses v (query_node s) ≡ seen + own + forest_uses v (operands_in n.node ++ n.behind)
    split =
        let n = node-here h.nodes l in
        let this : own ≡ own_uses v n.node = rw (take_rest, n.read) at o in
        omega (arith, h.total, ap (forest_uses v) n.is, forest_uses-step v n.node n.behind, this)

    -- two are seen: a clash
    pub uses-here : 2 ≤ seen + own → clashes_with s v ≡ true
    uses-here m = uses-clashes v (query_node s) ∙ lt-ltb 1 (uses v (query_node s)) (omega (arith, split))

    pub uses-next : {k : ℕ} → got tt k ≡ next_node (take (length s - at) (drop at s)) → seen + own < 2 → UsesLeft v s (at + k) (seen + own)
    unfolding next-nodes
    uses-next e m = record { nodes = next-nodes h.nodes l e; total = split; few = omega arith }

  -- none is left: no clash
  pub uses-end : length s ≤ at → clashes_with s v ≡ false
  uses-end l =
      uses-clashes v (query_node s)
      ∙ le-ltb 1 (uses v (query_node s)) (omega (arith, h.total, ap (forest_uses v) (none-left h.nodes l), h.few))

-- ---- the first clash among the nodes left

pub record ClashLeft (s : List ℕ) (at : ℕ) : Type 0 where
  pub nodes : NodesLeft s at
  pub same : variables_refusal (query_node s) ≡ clash_among s (forest_projections at nodes.forest)

pub clash-start : (s : List ℕ) → QuerySound s → ClashLeft s 0
unfolding walk-start variables_refusal
clash-start s h = record { nodes = walk-start s h; same = rw (append-nil (trust_projections 0 (query_node s))) }

module _ {s : List ℕ} {at : ℕ} (h : ClashLeft s at) where
  module _ (l : at < length s) where
    -- the projections of the nodes behind the head of this one
    rest : List TrustProjection
    rest =
        let n = node-here h.nodes l in
        forest_projections (at + operands_at n.node (node_size n.node)) (operands_in n.node ++ n.behind)

    own-and-rest : variables_refusal (query_node s) ≡ clash_among s (own_projection at (projected_in (drop at s)) ++ rest)
    unfolding rest
    own-and-rest =
        let n = node-here h.nodes l in
        h.same ∙ ap (λ (xs : List Node). clash_among s (forest_projections at xs)) n.is
        ∙ rw (forest_projections-step at n.node n.behind, n.head)

    -- this node's variable clashes
    pub clash-is : clash_at s at ≡ true → variables_refusal (query_node s) ≡ refuse 7 at
    clash-is t = own-and-rest ∙ clash-here s at rest (projected_in (drop at s)) t

    -- it does not
    pub clash-next : {k : ℕ} → got tt k ≡ next_node (take (length s - at) (drop at s)) → clash_at s at ≡ false → ClashLeft s (at + k)
    unfolding rest next-nodes
    clash-next e f =
        record {
          nodes = next-nodes h.nodes l e;
          same = rw (next_place_lem h.nodes l e) at (own-and-rest ∙ clash-behind s at rest (projected_in (drop at s)) f);
        }

  -- none is left
  pub clash-none : length s ≤ at → variables_refusal (query_node s) ≡ no_refusal
  clash-none l = h.same ∙ ap (λ (xs : List Node). clash_among s (forest_projections at xs)) (none-left h.nodes l)
