-- Numbers: the loop of `number` (`Reading`), and what its answer and that of `numeral` say of the automaton (`Counted`, `Begun`,
-- `numeral-says`). Assumes nothing.
use mathlib.Core.Path.{◌≡◌, refl, sym, ap, ◌∙◌, subst}
use mathlib.Core.Bool.{Bool, true, false, cond, ◌&&◌}
use mathlib.Core.List.{List, [], ◌∷◌}
use Prim.Native.Nat.{ℕ, zero, suc, ◌+◌, ◌*◌, ◌-◌, ◌≤◌, ◌<◌}
use native.Mathlib.Omega.{arith}
use native.Mathlib.Numerals.{add-one}
use native.Mathlib.Nat.{le_refl}
use lib.Dec.{leb}
use lib.ListN.{length, drop, get_or, drop_of_length-le, length-drop}
use borrow.Author.Tests.{le-leb, lt-leb, leb-true}
use Rattle.tsparql.proofs.ListLaws.{and_left, and_right}
use Rattle.grammar.proofs.Basics.{cond_cases, ahead}
use Rattle.grammar.specs.Automaton.{Symbol, Kind, token_of, gap, first, in_number, digit, in_gap, fault, after, finish, run}
use Rattle.scanner.specs.Scans.{digit_value, goes_on, longer_by, number_from, numeral_from}
use Rattle.scanner.specs.declared.Numeric.{Numeric}
use Rattle.std.proofs.Common.{Option, Some, None}
use Rattle.scanner.proofs.RunLaws.{moved-prepend, run_step, move_at, stop-at, end-at}

-- ---- digits

digit-most : (b : ℕ) → digit b ≡ true → b ≤ 57
digit-most b e = leb-true b 57 (and_right (leb 48 b) (leb b 57) e)

goes-within : (u v b : ℕ) → goes_on u v b ≡ true → v * 10 + (b - 48) ≤ u
goes-within u v b e =
    let x = v * 10 + (b - 48) in
    leb-true x u (and_right (leb 1 v) (leb x u) (and_right (digit b) (leb 1 v && leb x u) e))

-- ---- the loop

-- the first i of the bytes `bs`, which stand from `at` on, make v longer to x
pub record Reading (bs : List ℕ) (u v at x i : ℕ) : Type 0 where
  pub most : x ≤ u
  pub same : number_from u v at bs ≡ number_from u x (at + i) (drop i bs)

pub reading-first : (bs : List ℕ) (u v at : ℕ) → v ≤ u → Reading bs u v at v 0
reading-first bs u v at l = record { most = l; same = ap (λ (n : ℕ). number_from u v n bs) (omega arith) }

module _ (bs : List ℕ) (u v at x i : ℕ) (k : Reading bs u v at x i) where
  pub reading-end : length bs ≤ i → record { value = x; next = at + i } ≡ number_from u v at bs
  unfolding number_from
  reading-end h = sym (k.same ∙ rw (drop_of_length-le bs h))

  module _ (h : i < length bs) where
    -- the byte at i
    abbrev next_byte : ℕ
    next_byte = get_or bs i 0

    pub reading-one : (y : ℕ) → longer_by u x next_byte ≡ Some y → Reading bs u v at y (i + 1)
    unfolding number_from
    reading-one y e = split (goes_on u x next_byte) refl e
      where
        split : (g : Bool) → goes_on u x next_byte ≡ g → cond g (Some (x * 10 + (next_byte - 48))) None ≡ Some y → Reading bs u v at y (i + 1)
        split true g q =
            let grown : x * 10 + (next_byte - 48) ≡ y = cc in
            let place : suc (at + i) ≡ at + (i + 1) = omega arith in
            record {
              most = subst (λ (n : ℕ). n ≤ u) grown (goes-within u x next_byte g);
              same = k.same ∙ rw (ahead bs i h, g, grown, place);
            }
        split false g q = absurd (cc)

    pub reading-stop : longer_by u x next_byte ≡ None → record { value = x; next = at + i } ≡ number_from u v at bs
    unfolding number_from
    reading-stop e = split (goes_on u x next_byte) refl e
      where
        split : (g : Bool) → goes_on u x next_byte ≡ g → cond g (Some (x * 10 + (next_byte - 48))) None ≡ None
            → record { value = x; next = at + i } ≡ number_from u v at bs
        split true g q = absurd (cc)
        split false g q = sym (k.same ∙ rw (ahead bs i h, g))

pub ruleset reading = (reading-first, reading-one, reading-stop, reading-end, length-drop)

-- ---- what the answer of `number` says

-- a number within u, whose digits before `at` give v, goes on to `next`
record Counted (s : List ℕ) (u v at value next : ℕ) : Type 0 where
  pub forward : at ≤ next
  pub inside : next ≤ length s
  pub most : value ≤ u
  pub runs :
      (k : Kind) (σ : List Symbol)
      → run (drop at s) at (in_number u v k σ) ≡ after (token_of k value ∷ []) (run (drop next s) next (gap true σ))

module _ (s : List ℕ) (u v at : ℕ) where
  -- it ends at `at`
  counted-here :
      at ≤ length s → v ≤ u
      → ((k : Kind) (σ : List Symbol)
      → run (drop at s) at (in_number u v k σ) ≡ after (token_of k v ∷ []) (run (drop at s) at (gap true σ)))
      → Counted s u v at v at
  counted-here h m r = record { forward = le_refl at; inside = h; most = m; runs = r }

  counted-end : at ≤ length s → v ≤ u → length s ≤ at → Counted s u v at v at
  counted-end h m e =
      counted-here h m λ k σ.
      end-at s at (in_number u v k σ) e ∙ finished k σ ∙ ap (after (token_of k v ∷ [])) (sym (end-at s at (gap true σ) e))
    where
      finished : (k : Kind) (σ : List Symbol) → finish at (in_number u v k σ) ≡ after (token_of k v ∷ []) (finish at (gap true σ))
      finished k [] = refl
      finished k (X ∷ σ) = refl

  module _ (h : at < length s) where
    abbrev byte : ℕ
    byte = get_or s at 0

    counted_stop : v ≤ u → goes_on u v byte ≡ false → Counted s u v at v at
    counted_stop m e =
        counted-here (omega arith) m λ k σ.
        run_step s at (in_number u v k σ) h ∙ rw e (moved-prepend (drop (at + 1) s) at (token_of k v) (in_gap true σ byte))
        ∙ ap (after (token_of k v ∷ [])) (sym (run_step s at (gap true σ) h))

    counted-more :
        (value next : ℕ) → goes_on u v byte ≡ true → Counted s u (v * 10 + (byte - 48)) (at + 1) value next → Counted s u v at value next
    counted-more value next e c =
        let f = c.forward in
        record {
          forward = omega arith;
          inside = c.inside;
          most = c.most;
          runs = λ k σ. move_at s at (in_number u v k σ) (in_number u (v * 10 + (byte - 48)) k σ) h (rw e) ∙ c.runs k σ;
        }

abbrev CountedAs : List ℕ → ℕ → ℕ → ℕ → Numeric → Type 0
CountedAs s u v at n = Counted s u v at n.value n.next

-- with m bytes to the end
counted-from : (m : ℕ) (s : List ℕ) (u v at : ℕ) → at + m ≡ length s → v ≤ u → CountedAs s u v at (number_from u v at (drop at s))
unfolding number_from
counted-from zero s u v at l q =
    let h : length s ≤ at = omega arith in
    rw (drop_of_length-le s h) (counted-end s u v at (omega arith) q h)
counted-from (suc m) s u v at l q =
    let h : at < length s = omega arith in
    let b = get_or s at 0 in
    let x = v * 10 + (b - 48) in
    rw (ahead s at h)
    (cond_cases (CountedAs s u v at) (goes_on u v b)
    (λ e. rw (← add-one at) (counted-more s u v at h _ _ e (counted-from m s u x (at + 1) (omega arith) (goes-within u v b e))))
    (λ e. counted_stop s u v at h q e))

-- ---- the first digit

pub numeral-end : (s : List ℕ) (at l u : ℕ) → length s ≤ at → None ≡ numeral_from l u at (drop at s)
unfolding numeral_from
numeral-end s at l u h = sym (rw (drop_of_length-le s h))

module _ (s : List ℕ) (at l u : ℕ) (h : at < length s) where
  -- the byte there
  abbrev first_byte : ℕ
  first_byte = get_or s at 0

  pub numeral-none : digit_value first_byte ≡ None → None ≡ numeral_from l u at (drop at s)
  unfolding numeral_from
  numeral-none e = split (digit first_byte) refl e
    where
      split : (g : Bool) → digit first_byte ≡ g → cond g (Some (first_byte - 48)) None ≡ None → None ≡ numeral_from l u at (drop at s)
      split true g q = absurd (cc)
      split false g q = sym (rw (ahead s at h, g))

  module _ (v : ℕ) (e : digit_value first_byte ≡ Some v) where
    is : (digit first_byte ≡ true) × (first_byte - 48 ≡ v)
    is = split (digit first_byte) refl e
      where
        split : (g : Bool) → digit first_byte ≡ g → cond g (Some (first_byte - 48)) None ≡ Some v
            → (digit first_byte ≡ true) × (first_byte - 48 ≡ v)
        split true g q = (g, cc)
        split false g q = absurd (cc)

    pub numeral-small : v < l → None ≡ numeral_from l u at (drop at s)
    unfolding numeral_from
    numeral-small b = sym (rw (ahead s at h, is.0, is.1, lt-leb l v b))

    pub numeral-value : l ≤ v → Some (number_from u v (at + 1) (drop (at + 1) s)) ≡ numeral_from l u at (drop at s)
    unfolding numeral_from
    numeral-value b = sym (rw (ahead s at h, is.0, is.1, le-leb l v b, add-one at))

pub ruleset beginning = (numeral-end, numeral-none, numeral-small, numeral-value)

-- ---- what the answer of `numeral` says

-- a number from l to u stands from `at` to `next`
pub record Valued (s : List ℕ) (at l u value next : ℕ) : Type 0 where
  pub forward : at < next
  pub inside : next ≤ length s
  pub most : value ≤ u
  pub runs :
      (k : Kind) (σ : List Symbol)
      → run (drop at s) at (first l u k σ) ≡ after (token_of k value ∷ []) (run (drop next s) next (gap true σ))

-- no number from l on begins at `at`
pub record Lacking (s : List ℕ) (at l u : ℕ) : Type 0 where
  pub runs : (k : Kind) (σ : List Symbol) → run (drop at s) at (first l u k σ) ≡ fault at

-- by the answer
abbrev pub Begun : List ℕ → ℕ → ℕ → ℕ → Option Numeric → Type 0
Begun s at l u (Some n) = Valued s at l u n.value n.next
Begun s at l u None = Lacking s at l u

module _ (s : List ℕ) (at l u : ℕ) where
  module _ (h : at < length s) where
    -- the byte there, its value as a digit, and whether a number begins with it
    abbrev head : ℕ
    head = get_or s at 0

    abbrev begins : Bool
    begins = digit head && leb l (head - 48)

    lacks : begins ≡ false → Lacking s at l u
    lacks e = record { runs = λ k σ. stop-at s at (first l u k σ) h (rw e) }

    values : 9 ≤ u → begins ≡ true → Begun s at l u (Some (number_from u (head - 48) (at + 1) (drop (at + 1) s)))
    values q e =
        let m = digit-most head (and_left (digit head) (leb l (head - 48)) e) in
        let c = counted-from (length s - (at + 1)) s u (head - 48) (at + 1) (omega arith) (omega arith) in
        let f = c.forward in
        record {
          forward = omega arith;
          inside = c.inside;
          most = c.most;
          runs = λ k σ. move_at s at (first l u k σ) (in_number u (head - 48) k σ) h (rw e) ∙ c.runs k σ;
        }

  -- with m bytes to the end
  begun : (m : ℕ) → at + m ≡ length s → 9 ≤ u → Begun s at l u (numeral_from l u at (drop at s))
  unfolding numeral_from
  begun zero e q =
      let h : length s ≤ at = omega arith in
      rw (drop_of_length-le s h) (record { runs = λ k σ. end-at s at (first l u k σ) h })
  begun (suc m) e q =
      let h : at < length s = omega arith in
      rw (ahead s at h, ← add-one at) (cond_cases (Begun s at l u) (begins h) (values h q) (lacks h))

  pub numeral-says : (d : Option Numeric) → at ≤ length s → 9 ≤ u → d ≡ numeral_from l u at (drop at s) → Begun s at l u d
  numeral-says d h q e = subst (Begun s at l u) (sym e) (begun (length s - at) (omega arith) q)
