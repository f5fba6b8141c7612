-- The loop over a group: whatever body stands where it began, the stage is one from which it is gathered (`Gathering`); each turn hands
-- that on by its callee's promise. Assumes nothing.
use mathlib.Core.Path.{◌≡◌, refl, sym, ap, ◌∙◌, subst}
use mathlib.Core.Bool.{true}
use mathlib.Core.List.{List, [], ◌∷◌, ◌++◌}
use mathlib.Core.Option.{none}
use Prim.Native.Nat.{ℕ, ◌+◌, ◌*◌, ◌≤◌}
use native.Mathlib.Omega.{arith}
use native.Mathlib.Nat.{le_refl}
use lib.ListN.{length, drop, get_or, length-append}
use Rattle.std.proofs.Common.{Some}
use Rattle.tsparql.specs.Query.{Node, pattern_set}
use Rattle.tsparql.specs.Writing.{node_bytes}
use Rattle.grammar.specs.Tokens.{Token}
use Rattle.grammar.specs.Grammar.{Body}
use Rattle.grammar.specs.Meaning.{Item, items, joined, gathered}
use Rattle.blocks.specs.Buffers.{Filled}
use Rattle.blocks.specs.Blocks.{Holds, Appends}
use Rattle.words.specs.Words.{words}
use Rattle.words.proofs.WordLaws.{words-on}
use Rattle.groups.specs.Passes.{BodyAt}
use Rattle.groups.proofs.Fronts.{k_end, View, at_end, items-walks, body-items, view-at}
use Rattle.parser.specs.Stages.{body_place, Stands, Gathers, Closes}
use Rattle.parser.specs.declared.Stage.{Stage}
use Rattle.parser.proofs.StageLaws.{body-forward, items-longer, stage-inside, stage-items, stage-holds}

-- what is joined in a body
abbrev gathered_node : Body true → Node
gathered_node b = gathered (pattern_set []) [] (items b)

-- ---- where it begins and ends

-- the empty set is written
stage-first :
    (t : List ℕ) (all : ℕ) (pre : List ℕ) (out : Filled) (b : Body true) (rest : List Token) (at from n : ℕ) → from ≡ length pre
    → n ≡ out.end → BodyAt t at b rest → Holds out (pre ++ (0 ∷ [])) all
    → out.end + 4 * length (drop at t) ≤ all + 4 * length rest + 1
    → Stands t rest (gathered_node b) from all pre out (record { next = at; mid = n; run = 0 })
unfolding node_bytes
stage-first t all pre out b rest at from n f end w h room =
    record {
      start = f;
      left = pattern_set [];
      run = [];
      pending = none;
      items = items b;
      coming = body-items t at b rest w;
      yields = refl;
      closed = tt;
      holds = h;
      middle = end ∙ h.size ∙ length-append pre (0 ∷ []);
      count = refl;
      few = omega arith;
      room = room;
    }

-- at the closing brace
stage-end :
    (t : List ℕ) (rest : List Token) (final : Node) (from all : ℕ) (pre : List ℕ) (out : Filled) (g : Stage) → get_or t g.next 0 ≡ 125
    → Stands t rest final from all pre out g → (drop (g.next + 1) t ≡ words rest) × Holds out (pre ++ node_bytes final) all
unfolding gathered
stage-end t rest final from all pre out g w s =
    let idle = stage-items t rest final from all pre out g s (λ c. omega arith) in
    go (stage-holds t rest final from all pre out g s idle.1) (view-at t g.next 125 s.items rest w (items-walks idle.0))
  where
    go : Holds out (pre ++ node_bytes (joined s.left (pattern_set s.run))) all → View (drop g.next t) s.items rest k_end
        → (drop (g.next + 1) t ≡ words rest) × Holds out (pre ++ node_bytes final) all
    go h (at_end e q) =
        let same : joined s.left (pattern_set s.run) ≡ final =
        sym (ap (λ (is : List Item). gathered s.left s.run is) q) ∙ s.yields in
        (words-on t _ g.next 1 e, subst (λ (x : Node). Holds out (pre ++ node_bytes x) all) same h)

-- ---- the loop

-- the stage g of the gathering from a place on, where the empty set was written behind `from` bytes
pub record Gathering (t : List ℕ) (at from : ℕ) (out out' : Filled) (g : Stage) : Type 0 where
  pub forward : at ≤ g.next
  pub stands :
      (all : ℕ) (b : Body true) (rest : List Token) (pre : List ℕ) → from ≡ length pre → BodyAt t at b rest
      → Holds out (pre ++ (0 ∷ [])) all → out.end + 4 * length (drop at t) ≤ all + 4 * length rest + 1
      → Stands t rest (gathered_node b) from all pre out' g

pub gathering-first :
    (t : List ℕ) (out : Filled) (at from n : ℕ) → n ≡ out.end → Gathering t at from out out (record { next = at; mid = n; run = 0 })
gathering-first t out at from n end =
    record { forward = le_refl at; stands = λ all b rest pre f w h r. stage-first t all pre out b rest at from n f end w h r }

module _ (t : List ℕ) (at from : ℕ) where
  -- the stage behind the empty set, which was written behind what the buffer held
  begun :
      (out out₁ out' : Filled) (g : Stage) → from ≡ out.end → Appends out out₁ (0 ∷ []) → Gathering t at from out₁ out' g
      → (all : ℕ) (b : Body true) (rest : List Token) (pre : List ℕ) → BodyAt t at b rest → Holds out pre all
      → out.end + 4 * length (drop at t) ≤ all + 4 * length rest → Stands t rest (gathered_node b) from all pre out' g
  begun out out₁ out' g s append w all b rest pre p h room =
      let size = h.size in
      let long = items-longer _ _ _ (body-items t at b rest p) in
      let held = append all pre h (omega arith) in
      let size₁ = held.size in
      w.stands all b rest pre (s ∙ size) p held (omega (arith, length-append pre (0 ∷ [])))

  -- the words do not end before the closing brace
  pub gathering-inside :
      (out out₁ out' : Filled) (g : Stage) (next : ℕ) → length t ≤ g.next → from ≡ out.end → Appends out out₁ (0 ∷ [])
      → Gathering t at from out₁ out' g → Gathers t at out out' next
  gathering-inside out out₁ out' g next l s append w all b rest pre p h room =
      absurd (omega (arith, stage-inside _ _ _ _ _ _ _ g (begun out out₁ out' g s append w all b rest pre p h room)))

  pub gathering-end :
      (out out₁ out' : Filled) (g : Stage) → get_or t g.next 0 ≡ 125 → from ≡ out.end → Appends out out₁ (0 ∷ [])
      → Gathering t at from out₁ out' g → Gathers t at out out' (g.next + 1)
  gathering-end out out₁ out' g c s append w all b rest pre p h room =
      stage-end _ _ _ _ _ _ _ g c (begun out out₁ out' g s append w all b rest pre p h room)

  pub gathering-closes :
      (out out₁ out₂ out₃ : Filled) (a end next : ℕ) (g r : Stage) → Some a ≡ body_place (get_or t g.next 0) g.next → end ≡ out₁.end
      → Gathering t at from out out₁ g → (a ≤ next) × Gathers t a out₁ out₂ next
      → (next ≤ r.next) × Closes t a from out₂ out₃ g end next r → Gathering t at from out out₃ r
  gathering-closes out out₁ out₂ out₃ a end next g r place ends s gather close =
      let p = s.forward in
      let q = gather.0 in
      let u = close.0 in
      let less = body-forward (get_or t g.next 0) g.next a place in
      record {
        forward = omega arith;
        stands = λ all c rest pre f w h l. close.1 all rest pre out₁ _ place ends (s.stands all c rest pre f w h l) gather.1;
      }
