-- What stands at the front of a body's words, which its first word tells (`view-at`): an item with what it says, a dot, a further group of
-- a UNION, or the closing brace; and that `next_item` goes over it (`view-over`). Assumes nothing.
use mathlib.Core.Path.{◌≡◌, refl, sym, ap, ◌∙◌, subst}
use mathlib.Core.Bool.{Bool, true, false, cond, ◌||◌}
use mathlib.Core.List.{List, [], ◌∷◌}
use Prim.Native.Nat.{ℕ, ◌+◌, ◌<◌}
use native.Mathlib.Omega.{arith}
use native.Mathlib.Nat.{add-zero}
use lib.Dec.{eqb, leb}
use lib.ListN.{length, drop, get_or}
use lib.Seq.{get_or-drop}
use borrow.Author.Tests.{le-leb}
use Rattle.tsparql.specs.Strikes.{ascii}
use Rattle.grammar.specs.Tokens.{Token, mark, RPAREN, DOT}
use Rattle.grammar.specs.Grammar.{Slot, Variable, Thousandths, Disjunction, disjunction_tokens}
use Rattle.grammar.specs.Grammar.{Body, end, triple, triple_dot, element, element_dot, body_tokens}
use Rattle.grammar.specs.Grammar.{Element, groups, optional, filter, trust_as, ensure, element_tokens}
use Rattle.grammar.specs.Grammar.{Unions, none, and_union, unions_tokens}
use Rattle.grammar.specs.Sparql.{optional_dot}
use Rattle.grammar.specs.Meaning.{Item, a_triple, a_group, a_filter, a_projection, a_bound, items, item_of, united, group_node, optional_item}
use Rattle.grammar.specs.Meaning.{pattern_of, value_of, disjunction_of}
use Rattle.words.proofs.WordLaws.{word-inside}
use Rattle.words.specs.Words.{words, slot_word, thousandths_word}
use Rattle.words.specs.Links.{behind_of}
use Rattle.words.proofs.Balance.{slot-large, behind-condition, behind-body}
use Rattle.groups.specs.Items.{Follows, Items, Walks}

pub items-walks : {ws : List ℕ} {is : List Item} {rest : List Token} → Items ws is rest → Walks ws is rest
items-walks i = record { unions = none; tail = i.tail; written = i.written; follows = i.follows }

-- a body, or one behind a dot
plain : {a : Bool} (b : Body a) (rest : List Token) → Follows (body_tokens b rest) (items b) rest
plain {a} b rest = record { bare = a; tree = b; dot = false; written = refl; means = refl }

behind_dot : {a : Bool} (b : Body a) (rest : List Token) → Follows (mark DOT ∷ body_tokens b rest) (items b) rest
behind_dot {a} b rest = record { bare = a; tree = b; dot = true; written = refl; means = refl }

pub body-items :
    (t : List ℕ) (at : ℕ) (b : Body true) (rest : List Token) → drop at t ≡ words (body_tokens b rest) → Items (drop at t) (items b) rest
body-items t at b rest e = record { tail = body_tokens b rest; written = e; follows = plain b rest }

-- ---- the front

pub data Kind : Type 0 where
  k_end k_dot k_union k_triple k_group k_optional k_filter k_projection k_bound : Kind

-- by the first word
abbrev pub kind_of : ℕ → Kind
kind_of w =
    cond (leb 256 w) k_triple
    (cond (eqb w 125) k_end
    (cond (eqb w 46) k_dot
    (cond (eqb w 85) k_union
    (cond (eqb w 123) k_group (cond (eqb w 79) k_optional (cond (eqb w 70) k_filter (cond (eqb w 84) k_projection k_bound)))))))

pub data View (ws : List ℕ) (is : List Item) (rest : List Token) : Kind → Type 0 where
  at_end : ws ≡ 125 ∷ words rest → is ≡ [] → View ws is rest k_end
  at_dot : (ts : List Token) → ws ≡ 46 ∷ words ts → Follows ts is rest → View ws is rest k_dot
  at_union :
      (g : Body true) (us : Unions) (ts : List Token) → ws ≡ 85 ∷ 123 ∷ words (body_tokens g (unions_tokens us ts)) → Follows ts is rest
      → View ws is rest k_union
  at_triple :
      (x y z : Slot) (ts : List Token) (later : List Item) → ws ≡ slot_word x ∷ slot_word y ∷ slot_word z ∷ words ts
      → is ≡ a_triple (pattern_of x y z) ∷ later → Follows ts later rest → View ws is rest k_triple
  at_group :
      (g : Body true) (us : Unions) (ts : List Token) (later : List Item) → ws ≡ 123 ∷ words (body_tokens g (unions_tokens us ts))
      → is ≡ a_group (united (group_node (items g)) us) ∷ later → Follows ts later rest → View ws is rest k_group
  at_optional :
      (g : Body true) (ts : List Token) (later : List Item) → ws ≡ 79 ∷ 123 ∷ words (body_tokens g ts)
      → is ≡ optional_item (items g) ∷ later → Follows ts later rest → View ws is rest k_optional
  at_filter :
      (d : Disjunction) (ts : List Token) (later : List Item) → ws ≡ 70 ∷ 40 ∷ words (disjunction_tokens d (mark RPAREN ∷ ts))
      → is ≡ a_filter (disjunction_of d) ∷ later → Follows ts later rest → View ws is rest k_filter
  at_projection :
      (v : Variable) (ts : List Token) (later : List Item) → ws ≡ 84 ∷ 65 ∷ (256 + v.name) ∷ words ts
      → is ≡ a_projection v.name ∷ later → Follows ts later rest → View ws is rest k_projection
  at_bound :
      (l u : Thousandths) (ts : List Token) (later : List Item)
      → ws ≡ 69 ∷ 84 ∷ 40 ∷ thousandths_word l ∷ 44 ∷ thousandths_word u ∷ 41 ∷ words ts
      → is ≡ a_bound (value_of l) (value_of u) ∷ later → Follows ts later rest → View ws is rest k_bound

-- the items behind it
abbrev pub left : {ws : List ℕ} {is : List Item} {rest : List Token} {κ : Kind} → View ws is rest κ → List Item
left (at_end e q) = []
left {ws} {is} (at_dot ts e f) = is
left {ws} {is} (at_union g us ts e f) = is
left (at_triple x y z ts later e q f) = later
left (at_group g us ts later e q f) = later
left (at_optional g ts later e q f) = later
left (at_filter d ts later e q f) = later
left (at_projection v ts later e q f) = later
left (at_bound l u ts later e q f) = later

-- ---- every front is one of these

record Viewed (ws : List ℕ) (is : List Item) (rest : List Token) : Type 0 where
  kind : Kind
  first : kind_of (get_or ws 0 0) ≡ kind
  view : View ws is rest kind

kind-by : (ws us : List ℕ) → ws ≡ us → kind_of (get_or ws 0 0) ≡ kind_of (get_or us 0 0)
kind-by ws us e = ap (λ (l : List ℕ). kind_of (get_or l 0 0)) e

kind-slot : (x : Slot) → kind_of (slot_word x) ≡ k_triple
kind-slot x = rw (le-leb 256 (slot_word x) (slot-large x))

module _ (ws : List ℕ) (rest : List Token) where
  view-element :
      (x : Element) (is later : List Item) (ts : List Token) → ws ≡ words (element_tokens x ts) → is ≡ item_of x ∷ later
      → Follows ts later rest → Viewed ws is rest
  unfolding item_of ascii
  view-element (groups g us) is later ts e q f = record { kind = k_group; first = kind-by ws _ e; view = at_group g us ts later e q f }
  view-element (optional g) is later ts e q f = record { kind = k_optional; first = kind-by ws _ e; view = at_optional g ts later e q f }
  view-element (filter d) is later ts e q f = record { kind = k_filter; first = kind-by ws _ e; view = at_filter d ts later e q f }
  view-element (trust_as v) is later ts e q f = record { kind = k_projection; first = kind-by ws _ e; view = at_projection v ts later e q f }
  view-element (ensure l u) is later ts e q f = record { kind = k_bound; first = kind-by ws _ e; view = at_bound l u ts later e q f }

  view-body : {a : Bool} (b : Body a) (is : List Item) → ws ≡ words (body_tokens b rest) → is ≡ items b → Viewed ws is rest
  unfolding items ascii
  view-body end is e q = record { kind = k_end; first = kind-by ws _ e; view = at_end e q }
  view-body (triple x y z b) is e q =
      record { kind = k_triple; first = kind-by ws _ e ∙ kind-slot x; view = at_triple x y z _ (items b) e q (plain b rest) }
  view-body (triple_dot x y z b) is e q =
      record { kind = k_triple; first = kind-by ws _ e ∙ kind-slot x; view = at_triple x y z _ (items b) e q (behind_dot b rest) }
  view-body (element x b) is e q = view-element x is (items b) (body_tokens b rest) e q (plain b rest)
  view-body (element_dot x b) is e q = view-element x is (items b) (mark DOT ∷ body_tokens b rest) e q (behind_dot b rest)

  view-tail : (is : List Item) (ts : List Token) → ws ≡ words ts → Follows ts is rest → Viewed ws is rest
  unfolding ascii
  view-tail is ts e f = go f.dot (e ∙ ap words f.written)
    where
      go : (dot : Bool) → ws ≡ words (optional_dot dot (body_tokens f.tree rest)) → Viewed ws is rest
      go true e' =
          let same : Follows (body_tokens f.tree rest) is rest =
          record { bare = f.bare; tree = f.tree; dot = false; written = refl; means = f.means } in
          record { kind = k_dot; first = kind-by ws _ e'; view = at_dot (body_tokens f.tree rest) e' same }
      go false e' = view-body f.tree is e' f.means

  view : (is : List Item) → Walks ws is rest → Viewed ws is rest
  unfolding ascii
  view is w = go w.unions w.written
    where
      go : (us : Unions) → ws ≡ words (unions_tokens us w.tail) → Viewed ws is rest
      go none e = view-tail is w.tail e w.follows
      go (and_union g us) e = record { kind = k_union; first = kind-by ws _ e; view = at_union g us w.tail e w.follows }

-- the word at a place is the first of those from it on
pub first_word : (t : List ℕ) (i : ℕ) → get_or (drop i t) 0 0 ≡ get_or t i 0
first_word t i = get_or-drop i t 0 0 ∙ ap (λ (n : ℕ). get_or t n 0) (add-zero i)

pub view-at :
    (t : List ℕ) (i w : ℕ) (is : List Item) (rest : List Token) → get_or t i 0 ≡ w → Walks (drop i t) is rest
    → View (drop i t) is rest (kind_of w)
view-at t i w is rest e h =
    let v = view (drop i t) rest is h in
    subst (View (drop i t) is rest) (sym v.first ∙ ap kind_of (first_word t i ∙ e)) v.view

-- there is a word
pub view-inside : (t : List ℕ) (i : ℕ) (is : List Item) (rest : List Token) → Walks (drop i t) is rest → i < length t
view-inside t i is rest w = go (view (drop i t) rest is w).view
  where
    go : {κ : Kind} → View (drop i t) is rest κ → i < length t
    go (at_end e q) = word-inside t _ i _ e
    go (at_dot ts e f) = word-inside t _ i _ e
    go (at_union g us ts e f) = word-inside t _ i _ e
    go (at_triple x y z ts later e q f) = word-inside t _ i _ e
    go (at_group g us ts later e q f) = word-inside t _ i _ e
    go (at_optional g ts later e q f) = word-inside t _ i _ e
    go (at_filter d ts later e q f) = word-inside t _ i _ e
    go (at_projection v ts later e q f) = word-inside t _ i _ e
    go (at_bound l u ts later e q f) = word-inside t _ i _ e

-- ---- a body does not begin with UNION

element-first : (x : Element) (ts : List Token) → get_or (words (element_tokens x ts)) 0 0 ≡ 85 → ⊥
unfolding ascii
element-first (groups g us) ts e = omega (arith, e)
element-first (optional g) ts e = omega (arith, e)
element-first (filter d) ts e = omega (arith, e)
element-first (trust_as v) ts e = omega (arith, e)
element-first (ensure l u) ts e = omega (arith, e)

body-first : {a : Bool} (b : Body a) (ts : List Token) → get_or (words (body_tokens b ts)) 0 0 ≡ 85 → ⊥
unfolding ascii
body-first end ts e = omega (arith, e)
body-first (triple x y z b) ts e = omega (arith, slot-large x, e)
body-first (triple_dot x y z b) ts e = omega (arith, slot-large x, e)
body-first (element x b) ts e = element-first x (body_tokens b ts) e
body-first (element_dot x b) ts e = element-first x (mark DOT ∷ body_tokens b ts) e

pub items-first : (ws : List ℕ) (is : List Item) (rest : List Token) → Items ws is rest → get_or ws 0 0 ≡ 85 → ⊥
unfolding ascii
items-first ws is rest i e = go f.dot (sym (ap (λ (l : List ℕ). get_or l 0 0) (i.written ∙ ap words f.written)) ∙ e)
  where
    f : Follows i.tail is rest
    f = i.follows

    go : (dot : Bool) → get_or (words (optional_dot dot (body_tokens f.tree rest))) 0 0 ≡ 85 → ⊥
    go true q = omega (arith, q)
    go false q = body-first f.tree rest q

-- ---- over it

-- what stands behind the item at the front of ws, of which w is the first word
abbrev pub next_by : ℕ → List ℕ → List ℕ
next_by w ws =
    cond (leb 256 w || eqb w 84) (drop 3 ws)
    (cond (eqb w 69) (drop 7 ws)
    (cond (eqb w 123) (behind_of 1 (drop 1 ws))
    (cond (eqb w 70 || (eqb w 79 || eqb w 85)) (behind_of 1 (drop 2 ws)) (drop 1 ws))))

-- the same by the words alone
abbrev pub next_item : List ℕ → List ℕ
next_item ws = next_by (get_or ws 0 0) ws

next-triple : (x : Slot) (ws : List ℕ) → next_item (slot_word x ∷ ws) ≡ drop 2 ws
next-triple x ws = rw (le-leb 256 (slot_word x) (slot-large x))

only :
    {ws : List ℕ} {rest : List Token} (us : List ℕ) (tail : List Token) (later : List Item) → ws ≡ us → next_item us ≡ words tail
    → Follows tail later rest
    → Walks (next_item ws) later rest
only us tail later e n f = record { unions = none; tail = tail; written = ap next_item e ∙ n; follows = f }

pub view-over :
    {ws : List ℕ} {is : List Item} {rest : List Token} {κ : Kind} (v : View ws is rest κ) → (get_or ws 0 0 ≡ 125 → ⊥)
    → Walks (next_item ws) (left v) rest
view-over (at_end e q) n = absurd (n (ap (λ (l : List ℕ). get_or l 0 0) e))
view-over {ws} {is} (at_dot ts e f) n = only _ ts is e refl f
view-over (at_union g us ts e f) n =
    record { unions = us; tail = ts; written = ap next_item e ∙ behind-body g (unions_tokens us ts); follows = f }
view-over (at_triple x y z ts later e q f) n = only _ ts later e (next-triple x (slot_word y ∷ slot_word z ∷ words ts)) f
view-over (at_group g us ts later e q f) n =
    record { unions = us; tail = ts; written = ap next_item e ∙ behind-body g (unions_tokens us ts); follows = f }
view-over (at_optional g ts later e q f) n = only _ ts later e (behind-body g ts) f
view-over (at_filter d ts later e q f) n = only _ ts later e (behind-condition d ts) f
view-over (at_projection v ts later e q f) n = only _ ts later e refl f
view-over (at_bound l u ts later e q f) n = only _ ts later e refl f
