-- A group from what is joined in it: its projections and bounds around it (`unfilters`); then its conditions behind it
-- (`filters-behind`), from where they come to the front (`filters-none`, `filters-some`), or stay for a left join (`splits-none`,
-- `splits-some`). Assumes nothing.
use mathlib.Core.Path.{◌≡◌, refl, sym, ap, ◌∙◌, subst}
use mathlib.Core.Bool.{true}
use mathlib.Core.List.{List, [], ◌∷◌, ◌++◌, append_assoc, append-nil}
use mathlib.Core.Option.{none}
use Prim.Native.Nat.{ℕ, ◌+◌, ◌≤◌, ◌<◌}
use native.Mathlib.Omega.{arith}
use lib.ListN.{length, length-append}
use Rattle.tsparql.specs.Query.{Node, Condition, pattern_set}
use Rattle.tsparql.specs.Writing.{node_bytes, condition_bytes}
use Rattle.grammar.specs.Tokens.{Token}
use Rattle.grammar.specs.Grammar.{Body}
use Rattle.grammar.specs.Meaning.{gathered, projected, bounded, filters, conjoined, condition, unfiltered, filtered, items}
use Rattle.blocks.specs.Buffers.{Filled}
use Rattle.blocks.specs.Blocks.{Holds, Puts, Exchanges, Appends}
use Rattle.groups.specs.Passes.{BodyAt, Makes, conjoin, some_bytes, Conjoins, gathered_bytes, Unfilters, Filters, Splits}
use Rattle.groups.proofs.BoundLaws.{bounded-least}
use Rattle.groups.proofs.FilterLaws.{condition-large}

pub unfilters :
    (t : List ℕ) (at from : ℕ) (out out₁ out₂ : Filled) → Makes Node projected node_bytes t at from out out₁
    → Makes Node bounded node_bytes t at from out₁ out₂ → Unfilters t at from out out₂
unfilters t at from out out₁ out₂ projects bounds all b rest pre w f h room =
    let is = items b in
    let x = gathered (pattern_set []) [] is in
    let least = bounded-least is (projected x is) in
    bounds all b rest pre (projected x is) w f (projects all b rest pre x w f h (omega arith)) (omega arith)

-- ---- the conditions behind the group

-- the bytes of conditions joined by and
abbrev conjoined_bytes : List Condition → List ℕ
conjoined_bytes cs = some_bytes (conjoin none cs)

-- the block of u ends at m, and behind it stand the conditions
record Behind (out : Filled) (all : ℕ) (pre : List ℕ) (u : Node) (cs : List Condition) (m : ℕ) : Type 0 where
  middle : m ≡ length pre + length (node_bytes u)
  holds : Holds out (pre ++ (node_bytes u ++ conjoined_bytes cs)) all

behind-end :
    (out : Filled) (all : ℕ) (pre : List ℕ) (u : Node) (cs : List Condition) (m : ℕ) → Behind out all pre u cs m
    → out.end ≡ m + length (conjoined_bytes cs)
behind-end out all pre u cs m h =
    let e = h.middle in
    let s = h.holds.size in
    omega (arith, length-append pre (node_bytes u ++ conjoined_bytes cs), length-append (node_bytes u) (conjoined_bytes cs))

filters-behind :
    (t : List ℕ) (at from : ℕ) (out out₁ out₂ : Filled) (mid : ℕ) → mid ≡ out₁.end → Unfilters t at from out out₁ → Conjoins t at out₁ out₂ → (all : ℕ) (b : Body true) (rest : List Token) (pre : List ℕ)
    → BodyAt t at b rest → from ≡ length pre → Holds out (pre ++ gathered_bytes b) all
    → length pre + length (node_bytes (unfiltered (items b))) + length (conjoined_bytes (filters (items b))) ≤ all
    → Behind out₂ all pre (unfiltered (items b)) (filters (items b)) mid
filters-behind t at from out out₁ out₂ mid end unfilter conjoins all b rest pre w f h room =
    let U = node_bytes (unfiltered (items b)) in
    let C = conjoined_bytes (filters (items b)) in
    let h₁ = unfilter all b rest pre w f h (omega arith) in
    let size = h₁.size in
    let h₂ = conjoins all b rest (pre ++ U) none w size (subst (λ (l : List ℕ). Holds out₁ l all) (sym (append-nil (pre ++ U))) h₁)
    (omega (arith, length-append pre U)) in
    record { middle = end ∙ size ∙ length-append pre U; holds = subst (λ (l : List ℕ). Holds out₂ l all) (append_assoc pre U C) h₂ }

-- ---- one filter around the group

filtered-size : (cs : List Condition) (u : Node) → length (node_bytes u) + length (conjoined_bytes cs) ≤ length (node_bytes (filtered cs u))
unfolding node_bytes
filtered-size [] u = omega arith
filtered-size (c ∷ cs) u = omega (arith, length-append (condition_bytes (conjoined c cs)) (node_bytes u))

-- no condition was written
alone :
    (out : Filled) (all : ℕ) (pre : List ℕ) (u : Node) (cs : List Condition) (m : ℕ) → out.end ≤ m → Behind out all pre u cs m
    → (cs ≡ []) × Holds out (pre ++ node_bytes u) all
alone out all pre u [] m l h = (refl, subst (λ (x : List ℕ). Holds out (pre ++ x) all) (append-nil (node_bytes u)) h.holds)
alone out all pre u (d ∷ cs) m l h = absurd (omega (arith, behind-end out all pre u (d ∷ cs) m h, condition-large (conjoined d cs)))

pub filters-none :
    (t : List ℕ) (at from : ℕ) (out out₁ out₂ : Filled) (mid : ℕ) → mid ≡ out₁.end → Unfilters t at from out out₁ → Conjoins t at out₁ out₂ → out₂.end ≤ mid
    → Filters t at from out out₂
filters-none t at from out out₁ out₂ mid end unfilter conjoins l all b rest pre w f h room =
    let u = unfiltered (items b) in
    let cs = filters (items b) in
    let fits = filtered-size cs u in
    let z = filters-behind t at from out out₁ out₂ mid end unfilter conjoins all b rest pre w f h (omega arith) in
    let a = alone out₂ all pre u cs mid l z in
    subst (λ (x : Node). Holds out₂ (pre ++ node_bytes x) all) (sym (ap (λ (ds : List Condition). filtered ds u) a.0)) a.1

-- the conditions come to the front, and the byte of a filter before them
to_front :
    (out out₁ out₂ : Filled) (all : ℕ) (pre : List ℕ) (u : Node) (cs : List Condition) (from m : ℕ) → from ≡ length pre → m < out.end
    → length pre + length (node_bytes (filtered cs u)) ≤ all → Exchanges out out₁ from m → Puts out₁ out₂ from 64
    → Behind out all pre u cs m → Holds out₂ (pre ++ node_bytes (filtered cs u)) all
unfolding node_bytes
to_front out out₁ out₂ all pre u [] from m f l room exchange put h = absurd (omega (arith, behind-end out all pre u [] m h))
to_front out out₁ out₂ all pre u (d ∷ cs) from m f l room exchange put h =
    let C = condition_bytes (conjoined d cs) in
    let middle = h.middle in
    let there = exchange all pre (node_bytes u) C (sym f) (sym middle) h.holds in
    let size = there.size in
    let long = length-append C (node_bytes u) in
    let wide = length-append pre (C ++ node_bytes u) in
    put all pre (C ++ node_bytes u) (sym f) there (omega arith)

pub filters-some :
    (t : List ℕ) (at from : ℕ) (out out₁ out₂ out₃ out₄ : Filled) (mid : ℕ) → mid ≡ out₁.end → Unfilters t at from out out₁
    → Conjoins t at out₁ out₂ → mid < out₂.end → Exchanges out₂ out₃ from mid
    → Puts out₃ out₄ from 64 → Filters t at from out out₄
filters-some t at from out out₁ out₂ out₃ out₄ mid end unfilter conjoins l exchange put all b rest pre w f h room =
    let u = unfiltered (items b) in
    let cs = filters (items b) in
    let fits = filtered-size cs u in
    let z = filters-behind t at from out out₁ out₂ mid end unfilter conjoins all b rest pre w f h (omega arith) in
    to_front out₂ out₃ out₄ all pre u cs from mid f l (omega arith) exchange put z

-- ---- the condition of a left join

condition-size : (cs : List Condition) → length (conjoined_bytes cs) ≤ length (condition_bytes (condition cs))
unfolding condition_bytes
condition-size [] = omega arith
condition-size (c ∷ cs) = omega arith

always-bytes : (cs : List Condition) → cs ≡ [] → condition_bytes (condition cs) ≡ 112 ∷ []
unfolding condition_bytes
always-bytes cs e = ap (λ (ds : List Condition). condition_bytes (condition ds)) e

pub splits-none :
    (t : List ℕ) (at from : ℕ) (out out₁ out₂ out₃ : Filled) (mid : ℕ) → mid ≡ out₁.end → Unfilters t at from out out₁ → Conjoins t at out₁ out₂
    → out₂.end ≤ mid → Appends out₂ out₃ (112 ∷ []) → Splits t at from out out₃ mid
splits-none t at from out out₁ out₂ out₃ mid end unfilter conjoins l append all b rest pre w f h room =
    let u = unfiltered (items b) in
    let cs = filters (items b) in
    let fits = condition-size cs in
    let z = filters-behind t at from out out₁ out₂ mid end unfilter conjoins all b rest pre w f h (omega arith) in
    let a = alone out₂ all pre u cs mid l z in
    let bytes = always-bytes cs a.0 in
    let middle = z.middle in
    let held = append all (pre ++ node_bytes u) a.1 (omega (arith, a.1.size, length-append pre (node_bytes u), ap length bytes)) in (
      middle,
      subst (λ (x : List ℕ). Holds out₃ x all)
          (append_assoc pre (node_bytes u) (112 ∷ []) ∙ ap (λ (x : List ℕ). pre ++ (node_bytes u ++ x)) (sym bytes)) held,
    )

some_bytes_lem :
    (out : Filled) (all : ℕ) (pre : List ℕ) (u : Node) (cs : List Condition) (m : ℕ) → m < out.end → Behind out all pre u cs m
    → conjoined_bytes cs ≡ condition_bytes (condition cs)
some_bytes_lem out all pre u [] m l h = absurd (omega (arith, behind-end out all pre u [] m h))
some_bytes_lem out all pre u (d ∷ cs) m l h = refl

pub splits-some :
    (t : List ℕ) (at from : ℕ) (out out₁ out₂ : Filled) (mid : ℕ) → mid ≡ out₁.end → Unfilters t at from out out₁ → Conjoins t at out₁ out₂ → mid < out₂.end
    → Splits t at from out out₂ mid
splits-some t at from out out₁ out₂ mid end unfilter conjoins l all b rest pre w f h room =
    let u = unfiltered (items b) in
    let cs = filters (items b) in
    let fits = condition-size cs in
    let z = filters-behind t at from out out₁ out₂ mid end unfilter conjoins all b rest pre w f h (omega arith) in
    (z.middle, subst (λ (x : List ℕ). Holds out₂ (pre ++ (node_bytes u ++ x)) all) (some_bytes_lem out₂ all pre u cs mid l z) z.holds)
