-- A stage goes on over a group that was written behind its bytes: united with the operand that waits (`close-united`), and then joined
-- (`close-join`), or waiting where UNION follows (`close-union`); or left-joined (`close-optional`). Assumes nothing.
use mathlib.Core.Path.{◌≡◌, refl, sym, ap, ◌∙◌, subst}
use mathlib.Core.Bool.{Bool, true, false, cond}
use mathlib.Core.List.{List, [], ◌∷◌, ◌++◌, append_assoc}
use mathlib.Core.Option.{Option, none, some}
use Prim.Native.Nat.{ℕ, ◌+◌, ◌*◌, ◌≤◌}
use native.Mathlib.Omega.{arith}
use lib.Dec.{eqb}
use lib.ListN.{length, drop, get_or, length-append, length-drop, length-map}
use borrow.Author.Tests.{eqb-true, ne_eqb}
use Rattle.std.proofs.Common.{Some, None}
use Rattle.tsparql.specs.Strikes.{ascii}
use Rattle.tsparql.specs.Query as Q
use Rattle.tsparql.specs.Query.{Node, Pattern, pattern_set, left_join, union}
use Rattle.tsparql.specs.Writing.{node_bytes, condition_bytes}
use Rattle.grammar.specs.Tokens.{Token}
use Rattle.grammar.specs.Grammar as Gr
use Rattle.grammar.specs.Grammar.{Body, body_tokens, Unions, unions_tokens}
use Rattle.grammar.specs.Meaning.{Item, a_group, is_empty_set, joined, gathered, items, united, filters, condition, unfiltered, group_node}
use Rattle.grammar.specs.Meaning.{optional_item}
use Rattle.grammar.proofs.Sizes.{tree-size, group-size, optional-size}
use Rattle.blocks.specs.Buffers.{Filled}
use Rattle.blocks.specs.Blocks.{Holds, Puts, Exchanges}
use Rattle.words.specs.Words.{words, token_word}
use Rattle.words.proofs.WordLaws.{word_first, words-on}
use Rattle.groups.specs.Items.{Items, Follows}
use Rattle.groups.specs.Passes.{Filters, Splits}
use Rattle.groups.proofs.Fronts.{k_group, k_optional, View, at_group, at_optional, items-walks, items-first, first_word, view-at}
use Rattle.parser.specs.Sets.{pending_bytes, union_with, Unites, Joins}
use Rattle.parser.specs.Stages.{Coming, body_place, Stands, Gathers, Closes}
use Rattle.parser.specs.declared.Stage.{Stage}
use Rattle.parser.proofs.SetLaws.{joined-empty}
use Rattle.parser.proofs.StageLaws.{body-forward, follows-longer, none-waits, stage-inside, stage-items, stage-holds}

-- ---- the group that begins

-- a group, to be united with what waits
record Opening (t : List ℕ) (rest : List Token) (a : ℕ) (p : Option Node) (is : List Item) : Type 0 where
  inner : Body true
  unions : Unions
  tail : List Token
  later : List Item
  written : drop a t ≡ words (body_tokens inner (unions_tokens unions tail))
  means : is ≡ a_group (united (union_with p (group_node (items inner))) unions) ∷ later
  follows : Follows tail later rest

-- a word that begins a group, and is neither OPTIONAL nor UNION, is '{'
group-word : (w i a : ℕ) → Some a ≡ body_place w i → (w ≡ 79 → ⊥) → (w ≡ 85 → ⊥) → w ≡ 123
group-word w i a h n m = go (eqb w 123) refl
  where
    go : (b : Bool) → eqb w 123 ≡ b → w ≡ 123
    go true e = eqb-true w 123 e
    go false e = let z : Some a ≡ None = rw (e, ne_eqb w 79 n, ne_eqb w 85 m) at h in absurd (cc)

opening :
    (t : List ℕ) (rest : List Token) (i a : ℕ) (p : Option Node) (is : List Item) → Some a ≡ body_place (get_or t i 0) i
    → (get_or t i 0 ≡ 79 → ⊥) → Coming p (drop i t) is rest → Opening t rest a p is
opening t rest i a (some u) is e n c =
    let at : Some a ≡ Some (i + 2) = e ∙ rw (word_first t _ i _ c.written) in
    let place : a ≡ i + 2 = cc in
    record {
      inner = c.inner;
      unions = c.unions;
      tail = c.tail;
      later = c.later;
      written = ap (λ (k : ℕ). drop k t) place ∙ words-on t _ i 2 c.written;
      means = c.means;
      follows = c.follows;
    }
opening t rest i a none is e n c =
    let first : get_or t i 0 ≡ 123 = group-word (get_or t i 0) i a e n (λ q. items-first _ is rest c (first_word t i ∙ q)) in
    let at : Some a ≡ Some (i + 1) = e ∙ rw first in
    let place : a ≡ i + 1 = cc in
    go place (view-at t i 123 is rest first (items-walks c))
  where
    go : a ≡ i + 1 → View (drop i t) is rest k_group → Opening t rest a none is
    go place (at_group g us ts later q m f) =
        record {
          inner = g;
          unions = us;
          tail = ts;
          later = later;
          written = ap (λ (k : ℕ). drop k t) place ∙ words-on t _ i 1 q;
          means = m;
          follows = f;
        }

-- ---- sizes

unions-longer : (us : Unions) (ts : List Token) → length ts ≤ length (unions_tokens us ts)
unions-longer Gr.none ts = omega arith
unions-longer (Gr.and_union g us) ts = let h = unions-longer us ts in omega (arith, tree-size g (unions_tokens us ts))

union_with-size : (p : Option Node) (x : Node) → length (node_bytes (union_with p x)) ≤ 1 + length (pending_bytes p) + length (node_bytes x)
unfolding node_bytes
union_with-size none x = omega arith
union_with-size (some u) x = omega (arith, length-append (node_bytes u) (node_bytes x))

joined-size : (x y : Node) → length (node_bytes (joined x y)) ≤ 1 + length (node_bytes x) + length (node_bytes y)
unfolding node_bytes
joined-size x y = go (is_empty_set x) (is_empty_set y)
  where
    go : (b c : Bool) → length (node_bytes (cond b y (cond c x (Q.join x y)))) ≤ 1 + length (node_bytes x) + length (node_bytes y)
    go true c = omega arith
    go false true = omega arith
    go false false = omega (arith, length-append (node_bytes x) (node_bytes y))

-- ---- united with what waits

-- the operand z stands behind x, its union may go on at j, and then items
record United (t : List ℕ) (rest : List Token) (all : ℕ) (pre : List ℕ) (out : Filled) (x : Node) (is : List Item) (j : ℕ) : Type 0 where
  operand : Node
  unions : Unions
  tail : List Token
  later : List Item
  written : drop j t ≡ words (unions_tokens unions tail)
  means : is ≡ a_group (united operand unions) ∷ later
  follows : Follows tail later rest
  holds : Holds out ((pre ++ node_bytes x) ++ node_bytes operand) all
  room : out.end + 1 + 4 * length (unions_tokens unions tail) ≤ all + 4 * length rest + 1

module _ (t : List ℕ) (rest : List Token) (all : ℕ) (pre : List ℕ) (out₀ : Filled) (final : Node) (from a : ℕ) (g : Stage) (end next : ℕ)
    (s : Stands t rest final from all pre out₀ g) where
  close-united :
      (out out₁ out₂ : Filled) → Some a ≡ body_place (get_or t g.next 0) g.next → (get_or t g.next 0 ≡ 79 → ⊥)
      → end ≡ out₀.end → Gathers t a out₀ out next → Filters t a end out out₁ → Unites out₁ out₂ g.mid end
      → United t rest all pre out₂ (joined s.left (pattern_set s.run)) s.items next
  close-united out out₁ out₂ place w ends gather filter unite =
      let less = body-forward (get_or t g.next 0) g.next a place in
      let p = s.pending in
      let x = joined s.left (pattern_set s.run) in
      let J = node_bytes x in
      let P = pending_bytes p in
      let o = opening t rest g.next a p s.items place w s.coming in
      let us = unions_tokens o.unions o.tail in
      let G = group_node (items o.inner) in
      let Z = union_with p G in
      let room = s.room in
      let middle = s.middle in
      let size = s.holds.size in
      let inside = stage-inside t rest final from all pre out₀ g s in
      let words₁ = ap length o.written in
      let words₂ = length-map (body_tokens o.inner us) token_word in
      let words₃ = length-drop g.next t in
      let words₄ = length-drop a t in
      let tree = tree-size o.inner us in
      let group = group-size (items o.inner) in
      let longer = unions-longer o.unions o.tail in
      let follow = follows-longer _ _ _ o.follows in
      let wide = length-append pre (J ++ P) in
      let wide₂ = length-append J P in
      let h = gather all o.inner us (pre ++ (J ++ P)) o.written s.holds (omega arith) in
      let h₁ = filter all o.inner us (pre ++ (J ++ P)) o.written (ends ∙ size) h.1 (omega arith) in
      let size₁ = h₁.size in
      let wide₃ = length-append (pre ++ (J ++ P)) (node_bytes G) in
      let flat : (pre ++ (J ++ P)) ++ node_bytes G ≡ (pre ++ J) ++ (P ++ node_bytes G) =
      ap (λ (l : List ℕ). l ++ node_bytes G) (sym (append_assoc pre J P)) ∙ append_assoc (pre ++ J) P (node_bytes G) in
      let wide₄ = length-append pre J in
      let h₂ = unite all (pre ++ J) p G (omega arith) (omega arith) (subst (λ (l : List ℕ). Holds out₁ l all) flat h₁) (omega arith) in
      let size₂ = h₂.size in
      let wide₅ = length-append (pre ++ J) (node_bytes Z) in
      let most = union_with-size p G in
      record {
        operand = Z;
        unions = o.unions;
        tail = o.tail;
        later = o.later;
        written = h.0;
        means = o.means;
        follows = o.follows;
        holds = h₂;
        room = omega arith;
      }

-- ---- joined

gathered-group :
    (x : Node) (run : List Pattern) (n : Node) (later : List Item)
    → gathered (joined (joined x (pattern_set run)) n) [] later ≡ gathered x run (a_group n ∷ later)
unfolding gathered
gathered-group x run n later = refl

united-none : (z : Node) → united z Gr.none ≡ z
unfolding united
united-none z = refl

pub close-join :
    (t : List ℕ) (out out₁ out₂ out₃ : Filled) (a from end next mid : ℕ) (g : Stage) → (get_or t g.next 0 ≡ 79 → ⊥)
    → (get_or t next 0 ≡ 85 → ⊥) → Filters t a end out out₁ → Unites out₁ out₂ g.mid end → Joins out₂ out₃ from g.mid
    → mid ≡ out₃.end → Closes t a from out out₃ g end next (record { next = next; mid = mid; run = 0 })
unfolding ascii
close-join t out out₁ out₂ out₃ a from end next mid g w y filter unite join last all rest pre out₀ final place ends s gather =
    let c = close-united t rest all pre out₀ final from a g end next s out out₁ out₂ place w ends gather filter unite in
    go c c.unions refl
  where
    x : Node
    x = joined s.left (pattern_set s.run)

    go : (c : United t rest all pre out₂ x s.items next) (us : Unions) → c.unions ≡ us
        → Stands t rest final from all pre out₃ (record { next = next; mid = mid; run = 0 })
    go c (Gr.and_union h us) e =
        absurd (y (word_first t _ next _ (c.written ∙ ap (λ (v : Unions). words (unions_tokens v c.tail)) e)))
    go c Gr.none e =
        let z = c.operand in
        let N = node_bytes (joined x z) in
        let written : drop next t ≡ words c.tail = c.written ∙ ap (λ (v : Unions). words (unions_tokens v c.tail)) e in
        let means : s.items ≡ a_group z ∷ c.later =
        c.means ∙ ap (λ (v : Unions). a_group (united z v) ∷ c.later) e ∙ ap (λ (m : Node). a_group m ∷ c.later) (united-none z) in
        let room = c.room in
        let size = c.holds.size in
        let longer = unions-longer c.unions c.tail in
        let follow = follows-longer _ _ _ c.follows in
        let held = subst (λ (l : List ℕ). Holds out₂ l all) (append_assoc pre (node_bytes x) (node_bytes z)) c.holds in
        let h = join all pre x z s.start s.middle held (omega arith) in
        let size₃ = h.size in
        let most = joined-size x z in
        let same = joined-empty (joined x z) in
        record {
          start = s.start;
          left = joined x z;
          run = [];
          pending = none;
          items = c.later;
          coming = record { tail = c.tail; written = written; follows = c.follows };
          yields =
              gathered-group s.left s.run z c.later
              ∙ sym (ap (λ (is : List Item). gathered s.left s.run is) means)
              ∙ s.yields;
          closed = tt;
          holds = none-waits out₃ pre _ all (subst (λ (m : Node). Holds out₃ (pre ++ node_bytes m) all) (sym same) h);
          middle = last ∙ size₃ ∙ length-append pre N ∙ ap (λ (m : Node). length pre + length (node_bytes m)) (sym same);
          count = refl;
          few = omega arith;
          room = omega (
            arith,
            ap length written,
            length-map c.tail token_word,
            length-append pre N,
            length-append (pre ++ node_bytes x) (node_bytes z),
            length-append pre (node_bytes x),
          );
        }

-- ---- UNION follows

pub close-union :
    (t : List ℕ) (out out₁ out₂ : Filled) (a from end next : ℕ) (g : Stage) → (get_or t g.next 0 ≡ 79 → ⊥) → get_or t next 0 ≡ 85
    → Filters t a end out out₁ → Unites out₁ out₂ g.mid end
    → Closes t a from out out₂ g end next (record { next = next; mid = g.mid; run = 0 })
unfolding united gathered ascii
close-union t out out₁ out₂ a from end next g w y filter unite all rest pre out₀ final place ends s gather =
    let c = close-united t rest all pre out₀ final from a g end next s out out₁ out₂ place w ends gather filter unite in
    go c c.unions refl
  where
    x : Node
    x = joined s.left (pattern_set s.run)

    go : (c : United t rest all pre out₂ x s.items next) (us : Unions) → c.unions ≡ us
        → Stands t rest final from all pre out₂ (record { next = next; mid = g.mid; run = 0 })
    go c Gr.none e =
        let written : drop next t ≡ words c.tail = c.written ∙ ap (λ (v : Unions). words (unions_tokens v c.tail)) e in
        let its : Items (drop next t) c.later rest = record { tail = c.tail; written = written; follows = c.follows } in
        absurd (items-first _ c.later rest its (first_word t next ∙ y))
    go c (Gr.and_union h us) e =
        let z = c.operand in
        let further = body_tokens h (unions_tokens us c.tail) in
        let written : drop next t ≡ 85 ∷ 123 ∷ words further =
        c.written ∙ ap (λ (v : Unions). words (unions_tokens v c.tail)) e in
        let means : s.items ≡ a_group (united (union z (group_node (items h))) us) ∷ c.later =
        c.means ∙ ap (λ (v : Unions). a_group (united z v) ∷ c.later) e in
        let room = c.room in
        let same = joined-empty x in
        let held = subst (λ (l : List ℕ). Holds out₂ l all) (append_assoc pre (node_bytes x) (node_bytes z)) c.holds in
        record {
          start = s.start;
          left = x;
          run = [];
          pending = some z;
          items = s.items;
          coming =
              record { inner = h; unions = us; tail = c.tail; later = c.later; written = written; means = means; follows = c.follows };
          yields =
              ap (λ (is : List Item). gathered x [] is) means
              ∙ ap (λ (m : Node). gathered (joined m (united (union z (group_node (items h))) us)) [] c.later) same
              ∙ sym (ap (λ (is : List Item). gathered s.left s.run is) means)
              ∙ s.yields;
          closed = refl;
          holds = subst (λ (m : Node). Holds out₂ (pre ++ (node_bytes m ++ node_bytes z)) all) (sym same) held;
          middle = s.middle ∙ ap (λ (m : Node). length pre + length (node_bytes m)) (sym same);
          count = refl;
          few = omega arith;
          room = omega (arith, ap length written, ap (λ (v : Unions). length (unions_tokens v c.tail)) e, length-map further token_word);
        }

-- ---- OPTIONAL

record Optional (t : List ℕ) (rest : List Token) (i : ℕ) (is : List Item) : Type 0 where
  inner : Body true
  tail : List Token
  later : List Item
  written : drop i t ≡ 79 ∷ 123 ∷ words (body_tokens inner tail)
  means : is ≡ optional_item (items inner) ∷ later
  follows : Follows tail later rest

optional : (t : List ℕ) (rest : List Token) (i : ℕ) (is : List Item) → View (drop i t) is rest k_optional → Optional t rest i is
optional t rest i is (at_optional g ts later e q f) =
    record { inner = g; tail = ts; later = later; written = e; means = q; follows = f }

pub close-optional :
    (t : List ℕ) (out out₁ out₂ out₃ : Filled) (a from end next mid last : ℕ) (g : Stage) → get_or t g.next 0 ≡ 79
    → Splits t a end out out₁ mid → Exchanges out₁ out₂ from mid → Puts out₂ out₃ from 32 → last ≡ out₃.end
    → Closes t a from out out₃ g end next (record { next = next; mid = last; run = 0 })
unfolding gathered node_bytes
close-optional t out out₁ out₂ out₃ a from end next mid last g w split exchange put lasts all rest pre out₀ final place ends s gather =
    let idle = stage-items t rest final from all pre out₀ g s (λ c. omega arith) in
    let o = optional t rest g.next s.items (view-at t g.next 79 s.items rest w (items-walks idle.0)) in
    let held = stage-holds t rest final from all pre out₀ g s idle.1 in
    let is = items o.inner in
    let x = joined s.left (pattern_set s.run) in
    let J = node_bytes x in
    let U = node_bytes (unfiltered is) in
    let C = condition_bytes (condition (filters is)) in
    let start = s.start in
    let room = s.room in
    let size = held.size in
    let wide = length-append pre J in
    let words₁ = ap length o.written in
    let words₂ = length-map (body_tokens o.inner o.tail) token_word in
    let tree = tree-size o.inner o.tail in
    let group = optional-size is in
    let follow = follows-longer _ _ _ o.follows in
    let at : Some a ≡ Some (g.next + 2) = place ∙ rw w in
    let behind : a ≡ g.next + 2 = cc in
    let on : drop a t ≡ words (body_tokens o.inner o.tail) = ap (λ (m : ℕ). drop m t) behind ∙ words-on t _ g.next 2 o.written in
    let words₃ = ap length on in
    let words₄ = length-map o.tail token_word in
    let r₁ = gather all o.inner o.tail (pre ++ J) on held (omega arith) in
    let r₂ = split all o.inner o.tail (pre ++ J) on (ends ∙ size) r₁.1 (omega arith) in
    let middle = r₂.0 in
    let flat : (pre ++ J) ++ (U ++ C) ≡ pre ++ ((J ++ U) ++ C) =
    append_assoc pre J (U ++ C) ∙ ap (λ (l : List ℕ). pre ++ l) (sym (append_assoc J U C)) in
    let wide₂ = length-append J U in
    let r₃ = exchange all pre (J ++ U) C (sym start) (omega arith) (subst (λ (l : List ℕ). Holds out₁ l all) flat r₂.1) in
    let size₃ = r₃.size in
    let wide₃ = length-append pre (C ++ (J ++ U)) in
    let wide₄ = length-append C (J ++ U) in
    let r₄ = put all pre (C ++ (J ++ U)) (sym start) r₃ (omega arith) in
    let size₄ = r₄.size in
    let wide₅ = length-append pre (32 ∷ (C ++ (J ++ U))) in
    record {
      start = start;
      left = left_join (condition (filters is)) x (unfiltered is);
      run = [];
      pending = none;
      items = o.later;
      coming = record { tail = o.tail; written = r₁.0; follows = o.follows };
      yields = sym (ap (λ (js : List Item). gathered s.left s.run js) o.means) ∙ s.yields;
      closed = tt;
      holds = none-waits out₃ pre (32 ∷ (C ++ (J ++ U))) all r₄;
      middle = lasts ∙ size₄ ∙ wide₅;
      count = refl;
      few = omega arith;
      room = omega (arith, ap length r₁.0);
    }
