-- Where brackets close: what stands behind (`behind-..`), the place (`closing-..`), one word more before those of which it is known
-- (`closed-..`), and the loop over all words (`Linking`). Assumes nothing.
use mathlib.Core.Path.{◌≡◌, refl, sym, ap, ◌∙◌, subst⁻¹}
use mathlib.Core.Bool.{Bool, true, false}
use mathlib.Core.List.{List, [], ◌∷◌}
use Prim.Native.Nat.{ℕ, zero, suc, ◌+◌, ◌-◌, ◌≤◌, ◌<◌}
use native.Mathlib.Omega.{arith}
use native.Mathlib.Nat.{le_refl, sub_self}
use mir.Syntax.{w16}
use mir.Val.{Fits}
use lib.Dec.{ltb}
use lib.ListN.{length, drop, get_or, set, length-set, length-drop}
use lib.Seq.{drop-drop, drop-length, get_or-set_same, get_or-set_other}
use borrow.Author.Tests.{ltb-true, ltb-false}
use Rattle.grammar.proofs.Basics.{cond_cases, ahead}
use Rattle.words.specs.Links.{is_opening, is_closing, behind_of, closing, LinkedFrom, Linked}

-- ---- what stands behind

pub behind-none : (ws : List ℕ) → behind_of 0 ws ≡ ws
unfolding behind_of
behind-none [] = refl
behind-none (w ∷ ws) = refl

-- behind e closing brackets, and then d
pub behind_sum : (d e f : ℕ) (ws : List ℕ) → f ≡ e + d → behind_of d (behind_of e ws) ≡ behind_of f ws
unfolding behind_of
behind_sum d e f [] q = refl
behind_sum d (zero) f (w ∷ ws) q = let same : d ≡ f = omega arith in ap (λ (n : ℕ). behind_of n (w ∷ ws)) same
behind_sum d (suc e) (zero) (w ∷ ws) q = absurd (omega arith)
behind_sum d (suc e) (suc f) (w ∷ ws) q =
    let closes = behind_sum d e f ws (omega arith) in
    let opens = behind_sum d (suc (suc e)) (suc (suc f)) ws (omega arith) in
    let other = behind_sum d (suc e) (suc f) ws (omega arith) in
    split (is_closing w) (is_opening w) refl refl closes opens other
  where
    split :
        (c o : Bool) → is_closing w ≡ c → is_opening w ≡ o → behind_of d (behind_of e ws) ≡ behind_of f ws
        → behind_of d (behind_of (suc (suc e)) ws) ≡ behind_of (suc (suc f)) ws → behind_of d (behind_of (suc e) ws) ≡ behind_of (suc f) ws
        → behind_of d (behind_of (suc e) (w ∷ ws)) ≡ behind_of (suc f) (w ∷ ws)
    split true o p r x y z = rw p x
    split false true p r x y z = rw (p, r) y
    split false false p r x y z = rw (p, r) z

-- ---- the place

-- it is an end of the words
record EndOf (ws ends : List ℕ) : Type 0 where
  pub fewer : length ends ≤ length ws
  pub so : ends ≡ drop (length ws - length ends) ws

end_more : (w : ℕ) (ws ends : List ℕ) → EndOf ws ends → EndOf (w ∷ ws) ends
end_more w ws ends e =
    let f = e.fewer in
    let n : length (w ∷ ws) - length ends ≡ suc (length ws - length ends) = omega arith in
    record { fewer = omega arith; so = e.so ∙ sym (ap (λ (k : ℕ). drop k (w ∷ ws)) n) }

end-all : (ws : List ℕ) → EndOf ws ws
end-all ws = record { fewer = le_refl (length ws); so = sym (ap (λ (k : ℕ). drop k ws) (sub_self (length ws))) }

behind-end : (d : ℕ) (ws : List ℕ) → EndOf ws (behind_of d ws)
unfolding behind_of
behind-end d [] = end-all []
behind-end (zero) (w ∷ ws) = end-all (w ∷ ws)
behind-end (suc d) (w ∷ ws) =
    let closes = behind-end d ws in
    let opens = behind-end (suc (suc d)) ws in
    let other = behind-end (suc d) ws in
    end_more w ws (behind_of (suc d) (w ∷ ws))
    (cond_cases (EndOf ws) (is_closing w) (λ _. closes) (λ _. cond_cases (EndOf ws) (is_opening w) (λ _. opens) (λ _. other)))

-- e is the place behind the bracket that is open at i
pub record ClosedAt (t : List ℕ) (i e : ℕ) : Type 0 where
  pub from : i ≤ e
  pub to : e ≤ length t
  pub so : drop e t ≡ behind_of 1 (drop i t)

pub closed-place : {t : List ℕ} {i e : ℕ} → ClosedAt t i e → e ≡ closing t i
unfolding closing
closed-place {t} {i} {e} c =
    let f = c.from in
    let g = c.to in
    omega (arith, ap length c.so, length-drop e t, length-drop i t)

pub closing-forward : (t : List ℕ) (i : ℕ) → i ≤ closing t i
unfolding closing
closing-forward t i = omega arith

pub closing-behind : (t : List ℕ) (i : ℕ) → drop (closing t i) t ≡ behind_of 1 (drop i t)
unfolding closing
closing-behind t i = sym (drop-drop (length (drop i t) - length (behind_of 1 (drop i t))) i t) ∙ sym (behind-end 1 (drop i t)).so

place-closed : (t : List ℕ) (i : ℕ) → i ≤ length t → ClosedAt t i (closing t i)
unfolding closing
place-closed t i h =
    record { from = closing-forward t i; to = omega (arith, length-drop i t); so = closing-behind t i }

-- ---- one word more

pub closed-closing : (t : List ℕ) (i : ℕ) → i < length t → is_closing (get_or t i 0) ≡ true → ClosedAt t i (i + 1)
unfolding behind_of
closed-closing t i h w =
    record {
      from = omega arith;
      to = omega arith;
      so = sym (ap (λ (ws : List ℕ). behind_of 1 ws) (ahead t i h) ∙ rw w (behind-none (drop (i + 1) t)));
    }

module _ (t ends : List ℕ) (i : ℕ) (h : i < length t) (links : LinkedFrom t ends (i + 1)) where
  known : (j : ℕ) → i + 1 ≤ j → j ≤ length t → ClosedAt t j (get_or ends j 0)
  known j a b = subst⁻¹ (ClosedAt t j) (links j a b) (place-closed t j b)

  pub next : ClosedAt t (i + 1) (get_or ends (i + 1) 0)
  next = known (i + 1) (le_refl (i + 1)) (omega arith)

  -- the bracket that opens here, and then the one that is open before it
  pub closed-opening : is_closing (get_or t i 0) ≡ false → is_opening (get_or t i 0) ≡ true
      → ClosedAt t i (get_or ends (get_or ends (i + 1) 0) 0)
  unfolding behind_of
  closed-opening c o =
      let e = get_or ends (i + 1) 0 in
      let from₁ = next.from in
      let second = known e next.from next.to in
      let from₂ = second.from in
      record {
        from = omega arith;
        to = second.to;
        so =
            second.so
            ∙ ap (λ (ws : List ℕ). behind_of 1 ws) next.so
            ∙ behind_sum 1 1 2 (drop (i + 1) t) refl
            ∙ sym (ap (λ (ws : List ℕ). behind_of 1 ws) (ahead t i h)
            ∙ rw (c, o));
      }

  pub closed-other : is_closing (get_or t i 0) ≡ false → is_opening (get_or t i 0) ≡ false → ClosedAt t i (get_or ends (i + 1) 0)
  unfolding behind_of
  closed-other c o =
      let from₁ = next.from in
      record {
        from = omega arith;
        to = next.to;
        so =
            next.so
            ∙ sym (ap (λ (ws : List ℕ). behind_of 1 ws) (ahead t i h) ∙ rw (c, o));
      }

-- ---- the loop

-- it is known from i on
pub record Linking (t ends₀ ends : List ℕ) (i : ℕ) : Type 0 where
  pub inside : i ≤ length t
  pub same : length ends ≡ length ends₀
  pub within : length t < length ends
  pub links : LinkedFrom t ends i
  pub kept : (j : ℕ) → length t < j → get_or ends j 0 ≡ get_or ends₀ j 0

-- an entry more
linked-entry :
    (t ends : List ℕ) (i e : ℕ) → i < length ends → e ≡ closing t i → LinkedFrom t ends (i + 1) → LinkedFrom t (set ends i e) i
linked-entry t ends i e r c l j h k = split (ltb i j) refl
  where
    split : (b : Bool) → ltb i j ≡ b → get_or (set ends i e) j 0 ≡ closing t j
    split false g =
        let least = ltb-false i j g in
        let same : j ≡ i = omega arith in
        subst⁻¹ (λ (n : ℕ). get_or (set ends i e) n 0 ≡ closing t n) same (get_or-set_same ends i e 0 r ∙ c)
    split true g =
        let more = ltb-true i j g in
        get_or-set_other ends i j e 0 (λ q. omega arith) ∙ l j (omega arith) k

-- behind the last word nothing is open
pub linking-first :
    (t ends : List ℕ) → length t < length ends
    → Linking t (set ends (length t) (length t)) (set ends (length t) (length t)) (length t)
unfolding behind_of
linking-first t ends h =
    let n = length t in
    let all : ClosedAt t n n =
    record { from = le_refl n; to = le_refl n; so = sym (ap (λ (ws : List ℕ). behind_of 1 ws) (drop-length t) ∙ sym (drop-length t)) } in
    record {
      inside = le_refl n;
      same = refl;
      within = subst⁻¹ (λ (m : ℕ). n < m) (length-set ends n n) h;
      links = linked-entry t ends n n h (closed-place all) (λ j a b. absurd (omega arith));
      kept = λ j a. refl;
    }

-- ---- a place

-- it fits into the table
pub linked-within : (t ends : List ℕ) (at : ℕ) → at ≤ length t → Linked t ends → get_or ends at 0 ≤ length t
linked-within t ends at h l = subst⁻¹ (λ (n : ℕ). n ≤ length t) (l.links at (omega arith) h) (place-closed t at h).to

-- a text is no longer than the greatest end
pub linked-few : (t ends : List ℕ) → Linked t ends → ((i : ℕ) → Fits w16 (get_or ends i 0)) → length t ≤ 65535
linked-few t ends l small =
    let n = length t in
    omega (arith, (place-closed t n (le_refl n)).from, l.links n (omega arith) (le_refl n), (small n).fits)

-- behind the last word
pub closing-none : (t : List ℕ) (at : ℕ) → length t < at → at ≡ closing t at
unfolding closing
closing-none t at h = omega (arith, length-drop at t)

-- what `linked` cites
pub ruleset few = (linked-few)

-- what `behind` cites
pub ruleset places = (linked-within, closing-none)
