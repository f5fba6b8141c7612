-- Nodes one behind the other. A node that was read is its head, what stands before its operands, and its operands, read one behind the
-- other (`node-found`); a query without a fault is one node (`query-reads`). Assumes nothing.
use mathlib.Core.Path.{◌≡◌, refl, sym, ap, ◌∙◌}
use mathlib.Core.Bool.{Bool, true, false, ◌&&◌}
use mathlib.Core.List.{List, [], ◌∷◌}
use Prim.Native.Nat.{ℕ, ◌+◌, ◌/◌, ◌%◌, ◌≤◌}
use native.Mathlib.Omega.{arith}
use borrow.Author.Tests.{eqb-true}
use lib.Dec.{eqb, leb}
use lib.ListN.{length, drop}
use Rattle.tsparql.specs.Query.{Pattern, Condition, Node, pattern_set, join, left_join, union, filter, project_trust, ensure_trust}
use Rattle.tsparql.specs.Reading.{Read, got, fault, and_then, require, kind_of, low_of, bits24, read_patterns, read_condition}
use Rattle.tsparql.specs.Reading.{one_node, two_nodes, after_condition, bounded_node, node_step, read_node, read_query, query_node}
use Rattle.tsparql.proofs.QuerySize.{node_size-positive}
use Rattle.tsparql.proofs.ReaderSteps.{read_node-step}
use Rattle.tsparql.proofs.WrittenRead.{ReadsCondition, read_condition-sound, ReadsNode}
use Rattle.tsparql.proofs.WrittenRead.{read_node-sound, PatternsFormed, Reads, read_patterns-sound}
use Rattle.tsparql.specs.Lists.{concat_map}
use Rattle.tsparql.specs.Writing.{pattern_bytes, condition_size, node_size}
use Rattle.tsparql.specs.WellFormed.{NodeFormed}
use Rattle.heads.specs.declared.Head.{Head}
use Rattle.heads.specs.declared.Head.TheVariants as H
use Rattle.query.specs.Answers.{node_head}
use Rattle.heads.specs.Parts.{node_head_read}
use Rattle.query.specs.Parts.{conditions_from, before_operands, own_read}
use Rattle.query.specs.Found.{QuerySound}
use Rattle.query.proofs.ReadLaws.{by_kind, no_kind, fault-not-got}
use Rattle.query.proofs.NodeParts.{one-condition}

-- ---- nodes one behind the other

-- from a place to an end these nodes are read
abbrev pub ReadsAll : List ℕ → ℕ → List Node → ℕ → Type 0
ReadsAll s at [] end = at ≡ end
ReadsAll s at (x ∷ xs) end = (m : ℕ) × (read_node (drop at s) ≡ got x m) × ReadsAll s (at + m) xs end

-- nodes that end somewhere begin before
pub reads_all-inside : (s : List ℕ) (at : ℕ) (xs : List Node) (end : ℕ) → ReadsAll s at xs end → at ≤ end
reads_all-inside s at [] end h = omega (arith, h)
reads_all-inside s at (x ∷ xs) end h = omega (arith, reads_all-inside s (at + h.0) xs end h.2)

abbrev pub operands_in : Node → List Node
operands_in (pattern_set ps) = []
operands_in (join x y) = x ∷ y ∷ []
operands_in (left_join c x y) = x ∷ y ∷ []
operands_in (union x y) = x ∷ y ∷ []
operands_in (filter c x) = x ∷ []
operands_in (project_trust v x) = x ∷ []
operands_in (ensure_trust l u x) = x ∷ []

-- where a node's operands begin
abbrev pub operands_at : Node → ℕ → ℕ
operands_at (pattern_set ps) m = m
operands_at (join x y) m = 1
operands_at (left_join c x y) m = 1 + condition_size c
operands_at (union x y) m = 1
operands_at (filter c x) m = 1 + condition_size c
operands_at (project_trust v x) m = 1
operands_at (ensure_trust l u x) m = 4

pub operands_at-positive : (x : Node) → 1 ≤ operands_at x (node_size x)
operands_at-positive (pattern_set ps) = node_size-positive (pattern_set ps)
operands_at-positive (join x y) = omega arith
operands_at-positive (left_join c x y) = omega arith
operands_at-positive (union x y) = omega arith
operands_at-positive (filter c x) = omega arith
operands_at-positive (project_trust v x) = omega arith
operands_at-positive (ensure_trust l u x) = omega arith

-- a pattern set's patterns, and a condition, are read behind the head
abbrev pub PatternsRead : List ℕ → ℕ → Node → Type 0
PatternsRead s own (pattern_set ps) = (m : ℕ) × (read_patterns (length ps) (drop own s) ≡ got ps m)
PatternsRead s own (join x y) = Unit {0}
PatternsRead s own (left_join c x y) = read_condition (drop own s) ≡ got c (condition_size c)
PatternsRead s own (union x y) = Unit {0}
PatternsRead s own (filter c x) = read_condition (drop own s) ≡ got c (condition_size c)
PatternsRead s own (project_trust v x) = Unit {0}
PatternsRead s own (ensure_trust l u x) = Unit {0}

-- how many bytes a head has
abbrev pub head_length : Head → ℕ
head_length (H.PatternSet n) = 1
head_length H.Join = 1
head_length H.LeftJoin = 1
head_length H.Union = 1
head_length H.Filter = 1
head_length (H.ProjectTrust v) = 1
head_length (H.EnsureTrust l u) = 4

-- the parts of a node x that was read, with its end
pub record NodeFound (s : List ℕ) (x : Node) (end : ℕ) : Type 0 where
  pub own : ℕ
  pub own_is : own ≡ head_length (node_head x)
  pub head-is : node_head_read s ≡ got (node_head x) own
  pub before-is : before_operands s (node_head x) own ≡ got tt (operands_at x end)
  pub operands-are : ReadsAll s (operands_at x end) (operands_in x) end
  pub patterns-are : PatternsRead s own x

-- ---- a read that found something found its parts

one_found : (s : List ℕ) (at : ℕ) (f : Node → Node) (x : Node) (n : ℕ) → one_node read_node s at f ≡ got x n
    → (a : Node) × (x ≡ f a) × ReadsAll s at (a ∷ []) n
one_found s at f x n e = go (read_node (drop at s)) refl e
  where
    go : (r : Read Node) → read_node (drop at s) ≡ r → and_then at r (λ a next. got (f a) next) ≡ got x n
        → (a : Node) × (x ≡ f a) × ReadsAll s at (a ∷ []) n
    go (got a m) h d = (a, cc, (m, h, cc))
    go (fault p) h d = absurd (fault-not-got d)

two-found : (s : List ℕ) (at : ℕ) (f : Node → Node → Node) (x : Node) (n : ℕ) → two_nodes read_node s at f ≡ got x n
    → (a : Node) × (b : Node) × (x ≡ f a b) × ReadsAll s at (a ∷ b ∷ []) n
two-found s at f x n e = go (read_node (drop at s)) refl e
  where
    go : (r : Read Node) → read_node (drop at s) ≡ r → and_then at r (λ a mid. one_node read_node s mid (f a)) ≡ got x n
        → (a : Node) × (b : Node) × (x ≡ f a b) × ReadsAll s at (a ∷ b ∷ []) n
    go (got a m) h d =
        let rest = one_found s (at + m) (f a) x n d in
        (a, rest.0, rest.1, (m, h, rest.2))
    go (fault p) h d = absurd (fault-not-got d)

-- a condition was read, of its size
condition-found : (s : List ℕ) (k : Condition → ℕ → Read Node) (x : Node) (n : ℕ) → after_condition s k ≡ got x n
    → (c : Condition) × (read_condition (drop 1 s) ≡ got c (condition_size c)) × (k c (1 + condition_size c) ≡ got x n)
condition-found s k x n e = go (read_condition (drop 1 s)) refl (read_condition-sound (drop 1 s)) e
  where
    go : (r : Read Condition) → read_condition (drop 1 s) ≡ r → ReadsCondition (drop 1 s) r → and_then 1 r k ≡ got x n
        → (c : Condition) × (read_condition (drop 1 s) ≡ got c (condition_size c)) × (k c (1 + condition_size c) ≡ got x n)
    go (got c m) h w d = (c, h ∙ ap (got c) w.1.size, rw w.1.size at d)
    go (fault p) h w d = absurd (fault-not-got d)

-- the place behind it
condition-before : (s : List ℕ) (c : Condition) → read_condition (drop 1 s) ≡ got c (condition_size c)
    → conditions_from 1 1 s ≡ got tt (1 + condition_size c)
condition-before s c e = one-condition s 1 ∙ rw e

require-found : {A : Type 0} (b : Bool) (r : Read A) (x : A) (n : ℕ) → require b r ≡ got x n → (b ≡ true) × (r ≡ got x n)
require-found true r x n e = (refl, e)
require-found false r x n e = absurd (fault-not-got e)

set_found : (s : List ℕ) (k : ℕ) (x : Node) (n : ℕ) → node_head_read s ≡ got (H.PatternSet k) 1
    → and_then 1 (read_patterns k (drop 1 s)) (λ ps next. got (pattern_set ps) next) ≡ got x n → NodeFound s x n
set_found s k x n head e = go (read_patterns k (drop 1 s)) refl (read_patterns-sound k (drop 1 s)) e
  where
    go : (r : Read (List Pattern)) → read_patterns k (drop 1 s) ≡ r → Reads (PatternsFormed k) (concat_map pattern_bytes) (drop 1 s) r
        → and_then 1 r (λ ps next. got (pattern_set ps) next) ≡ got x n → NodeFound s x n
    go (got ps m) h w d =
        let is : x ≡ pattern_set ps = cc in
        let end : 1 + m ≡ n = cc in
        let count : length ps ≡ k = w.0.0 in
        rw (is, ← end)
        (record {
          own = 1;
          own_is = refl;
          head-is = head ∙ rw count;
          before-is = rw (count, h);
          operands-are = refl;
          patterns-are = (m, rw count h);
        })
    go (fault p) h w d = absurd (fault-not-got d)

-- ---- a node that was read

module _ (s : List ℕ) (x : Node) (n : ℕ) where
  -- two operands behind a first byte
  two_operands : (h : Head) (f : Node → Node → Node) → node_head_read s ≡ got h 1
      → head_length h ≡ 1
      → ((a b : Node) → (node_head (f a b) ≡ h) × (before_operands s (node_head (f a b)) 1 ≡ got tt 1)
      × (operands_in (f a b) ≡ a ∷ b ∷ []) × (operands_at (f a b) n ≡ 1) × PatternsRead s 1 (f a b))
      → two_nodes read_node s 1 f ≡ got x n → NodeFound s x n
  two_operands h f head one g e =
      let parts = two-found s 1 f x n e in
      let w = g parts.0 parts.1 in
      rw parts.2
      (record {
        own = 1;
        own_is = rw w.0 (sym one);
        head-is = head ∙ rw w.0;
        before-is = w.1 ∙ rw w.3;
        operands-are = rw (w.2, w.3) parts.3;
        patterns-are = w.4;
      })

  node-found-step : node_step read_node s ≡ got x n → NodeFound s x n
  unfolding node_step node_head_read
  node-found-step e = start (eqb (length s) 0) refl
    where
      start : (b : Bool) → eqb (length s) 0 ≡ b → NodeFound s x n
      start true d = absurd (fault-not-got (rw d at e))
      start false d =
          by_kind (kind_of s)
          (λ k. set_found s (low_of s) x n (rw (d, k)) (rw (d, k) at e))
          (λ k.
          let h = require-found (eqb (low_of s) 0) (two_nodes read_node s 1 join) x n (rw (d, k) at e) in
          two_operands H.Join join (rw (d, k, h.0)) refl (λ a b. (refl, refl, refl, refl, tt)) h.1)
          (λ k.
          let h = require-found (eqb (low_of s) 0) (after_condition s (λ c at. two_nodes read_node s at (left_join c))) x n (rw (d, k) at e) in
          let c = condition-found s (λ c at. two_nodes read_node s at (left_join c)) x n h.1 in
          let parts = two-found s (1 + condition_size c.0) (left_join c.0) x n c.2 in
          rw parts.2
          (record {
            own = 1;
            own_is = refl;
            head-is = rw (d, k, h.0);
            before-is = condition-before s c.0 c.1;
            operands-are = parts.3;
            patterns-are = c.1;
          }))
          (λ k.
          let h = require-found (eqb (low_of s) 0) (two_nodes read_node s 1 union) x n (rw (d, k) at e) in
          two_operands H.Union union (rw (d, k, h.0)) refl (λ a b. (refl, refl, refl, refl, tt)) h.1)
          (λ k.
          let h = require-found (eqb (low_of s) 0) (after_condition s (λ c at. one_node read_node s at (filter c))) x n (rw (d, k) at e) in
          let c = condition-found s (λ c at. one_node read_node s at (filter c)) x n h.1 in
          let parts = one_found s (1 + condition_size c.0) (filter c.0) x n c.2 in
          rw parts.1
          (record {
            own = 1;
            own_is = refl;
            head-is = rw (d, k, h.0);
            before-is = condition-before s c.0 c.1;
            operands-are = parts.2;
            patterns-are = c.1;
          }))
          (λ k.
          let parts = one_found s 1 (project_trust (low_of s)) x n (rw (d, k) at e) in
          rw parts.1
          (record { own = 1; own_is = refl; head-is = rw (d, k); before-is = refl; operands-are = parts.2; patterns-are = tt }))
          (λ k.
          let h = require-found (eqb (low_of s) 0) (bounded_node read_node s) x n (rw (d, k) at e) in
          let lower = bits24 s 1 / 4096 in
          let upper = bits24 s 1 % 4096 in
          let g =
          require-found (leb 4 (length s) && leb lower 2000 && leb upper 2000) (one_node read_node s 4 (ensure_trust lower upper)) x n
          h.1 in
          let parts = one_found s 4 (ensure_trust lower upper) x n g.1 in
          rw parts.1
          (record {
            own = 4;
            own_is = refl;
            head-is = rw (d, k, h.0, g.0);
            before-is = refl;
            operands-are = parts.2;
            patterns-are = tt;
          }))
          (λ k. absurd (fault-not-got (rw (d, k) at e)))
          (λ k.
          absurd
          (fault-not-got
          (rw (
            d,
            no_kind k 0 (omega arith),
            no_kind k 1 (omega arith),
            no_kind k 2 (omega arith),
            no_kind k 3 (omega arith),
            no_kind k 4 (omega arith),
            no_kind k 5 (omega arith),
            no_kind k 6 (omega arith),
          ) at e)))

-- a node that was read is its parts
pub node-found : (s : List ℕ) (x : Node) (n : ℕ) → read_node s ≡ got x n → NodeFound s x n
node-found s x n e = node-found-step s x n (sym (read_node-step s) ∙ e)

-- its own part is its head, and the place of its operands
pub own_read_lem : {s : List ℕ} {x : Node} {n : ℕ} → NodeFound s x n → own_read s ≡ got (node_head x) (operands_at x n)
own_read_lem f = rw (f.head-is, f.before-is)

-- its size is its next place
pub read-size : (s : List ℕ) (x : Node) (n : ℕ) → read_node s ≡ got x n → n ≡ node_size x
read-size s x n e = go (read_node s) e (read_node-sound s)
  where
    go : (r : Read Node) → r ≡ got x n → ReadsNode s r → n ≡ node_size x
    go (got y m) d h = let is : y ≡ x = cc in let k : m ≡ n = cc in sym k ∙ h.1.size ∙ ap node_size is
    go (fault p) d h = absurd (fault-not-got d)

-- and its numbers are in range
pub read-formed : (s : List ℕ) (x : Node) (n : ℕ) → read_node s ≡ got x n → NodeFormed x
read-formed s x n e = go (read_node s) e (read_node-sound s)
  where
    go : (r : Read Node) → r ≡ got x n → ReadsNode s r → NodeFormed x
    go (got y m) d h = let is : y ≡ x = cc in rw is at h.0
    go (fault p) d h = absurd (fault-not-got d)

-- ---- a whole query

-- a query without a fault is one node, up to its end
pub query-reads : (s : List ℕ) → QuerySound s → ReadsAll s 0 (query_node s ∷ []) (length s)
unfolding read_query query_node
query-reads s h = go (read_node s) refl
  where
    go : (r : Read Node) → read_node s ≡ r → ReadsAll s 0 (query_node s ∷ []) (length s)
    go (got q n) e = end (eqb (0 + n) (length s)) refl
      where
        end : (b : Bool) → eqb (0 + n) (length s) ≡ b → ReadsAll s 0 (query_node s ∷ []) (length s)
        end true d = (n, e ∙ rw (e, d), eqb-true (0 + n) (length s) d)
        end false d = absurd (rw (e, d) at h)
    go (fault p) e = absurd (rw e at h)
