-- White space: how much a text begins with (`spaces-..`), and what the answer of `skip` says of the automaton (`Skipped`, `skip-says`).
-- Assumes nothing.
use mathlib.Core.Path.{◌≡◌, refl, sym, ap, ◌∙◌, subst}
use mathlib.Core.Bool.{Bool, true, false, cond, ◌&&◌}
use mathlib.Core.Bool as B
use mathlib.Core.List.{List, [], ◌∷◌}
use Rattle.std.specs.List.{prefix_len}
use Rattle.std.proofs.lemmas.List.Sums.{prefix_len-le-length}
use Prim.Native.Nat.{ℕ, zero, suc, ◌+◌, ◌-◌, ◌≤◌, ◌<◌}
use native.Mathlib.Omega.{arith}
use native.Mathlib.Numerals.{add-one}
use native.Mathlib.Nat.{le_refl}
use lib.Dec.{eqb}
use lib.ListN.{length, drop, get_or, drop_of_length-le, length-drop}
use borrow.Author.Tests.{eq-eqb, ne_eqb}
use Rattle.tsparql.proofs.ListLaws.{part-drop}
use Rattle.grammar.proofs.Basics.{cond_cases, ahead}
use Rattle.grammar.specs.Tokens.{is_space}
use Rattle.grammar.specs.Automaton.{Symbol, gap, run}
use Rattle.scanner.specs.Scans.{skip_from}
use Rattle.scanner.proofs.RunLaws.{move_at}

-- ---- how many there are

pub spaces-from : (at : ℕ) (s : List ℕ) → at + prefix_len is_space s ≡ skip_from at s
unfolding skip_from
spaces-from at [] = omega arith
spaces-from at (b ∷ s) =
    let more = spaces-from (suc at) s in
    cond_cases (λ (n : ℕ). at + n ≡ skip_from at (b ∷ s)) (is_space b) (λ e. rw e (omega arith)) (λ e. rw e (omega arith))

-- what is left of a text
pub ruleset resting = (part-drop)

pub ruleset skipping = (spaces-from, prefix_len-le-length, length-drop)

-- ---- what the answer says

-- from `at` to r the automaton goes on between tokens
pub record Skipped (s : List ℕ) (at r : ℕ) : Type 0 where
  pub forward : at ≤ r
  pub inside : r ≤ length s
  pub runs : (a : Bool) (σ : List Symbol) → run (drop at s) at (gap a σ) ≡ run (drop r s) r (gap (a && eqb at r) σ)

-- and at r there is no white space
pub record SkippedAll (s : List ℕ) (at r : ℕ) : Type 0 where
  pub skipped : Skipped s at r
  pub stops : r < length s → is_space (get_or s r 0) ≡ false

skip-none : (s : List ℕ) (at : ℕ) → at ≤ length s → Skipped s at at
skip-none s at h = record { forward = le_refl at; inside = h; runs = λ a σ. rw (eq-eqb at at refl, B.and-true a) }

skip-one : (s : List ℕ) (at i : ℕ) → i < length s → is_space (get_or s i 0) ≡ true → Skipped s at i → Skipped s at (i + 1)
skip-one s at i h space r =
    let f = r.forward in
    let later : eqb at (i + 1) ≡ false = ne_eqb at (i + 1) (λ q. omega arith) in
    record {
      forward = omega arith;
      inside = omega arith;
      runs = λ a σ.
          r.runs a σ ∙ move_at s i (gap (a && eqb at i) σ) (gap false σ) h (rw space)
          ∙ ap (λ (x : Bool). run (drop (i + 1) s) (i + 1) (gap x σ)) (sym (rw (later, B.and-false a)));
    }

-- with m bytes to the end
skip-from : (m : ℕ) (s : List ℕ) (at i : ℕ) → i + m ≡ length s → Skipped s at i → SkippedAll s at (skip_from i (drop i s))
unfolding skip_from
skip-from zero s at i l k =
    let h : length s ≤ i = omega arith in
    rw (drop_of_length-le s h) (record { skipped = k; stops = λ h. absurd (omega arith) })
skip-from (suc m) s at i l k =
    let h : i < length s = omega arith in
    let b = get_or s i 0 in
    rw (ahead s i h)
    (cond_cases (SkippedAll s at) (is_space b)
    (λ e. rw (← add-one i) (skip-from m s at (i + 1) (omega arith) (skip-one s at i h e k)))
    (λ e. record { skipped = k; stops = λ _. e }))

pub skip-says : (s : List ℕ) (at r : ℕ) → at ≤ length s → r ≡ skip_from at (drop at s) → SkippedAll s at r
skip-says s at r h e = subst (SkippedAll s at) (sym e) (skip-from (length s - at) s at at (omega arith) (skip-none s at h))
