-- Fixed tokens: what the automaton makes of the bytes behind the first one (`within-..`), and of a token that the symbol on top allows
-- (`literal-..`), where the text has it whole and where it has only a part. Assumes nothing.
use mathlib.Core.Path.{◌≡◌, ap, ◌∙◌}
use mathlib.Core.Bool.{Bool, true, false, cond, ◌&&◌}
use mathlib.Core.List.{List, [], ◌∷◌, ◌++◌, Memᴰ}
use Prim.Native.Nat.{ℕ, suc, ◌+◌, ◌<◌}
use native.Mathlib.Omega.{arith}
use lib.Dec.{eqb}
use lib.ListN.{length, drop, get_or}
use lib.Seq.{drop-drop}
use Rattle.grammar.specs.Tokens.{Token, mark, is_capital, is_word_number_or_variable}
use Rattle.grammar.specs.Automaton.{Symbol, Entry, marks, gap, in_mark, within, stop, Outcome, fault, after, run}
use Rattle.grammar.proofs.Complete.{at_mark}
use Rattle.scanner.specs.Scans.{common}
use Rattle.scanner.proofs.RunLaws.{after_nothing, moved, run-cons, run_step}

-- ---- behind its first byte

module _ (tok : Token) (σ : List Symbol) where
  -- the token was read, and the text goes on with t at place n
  abbrev behind : List ℕ → ℕ → Outcome
  behind t n = after (tok ∷ []) (run t n (gap (is_word_number_or_variable tok) σ))

  -- one byte more
  within-cons : (c : ℕ) (w : List ℕ) (b : ℕ) (t : List ℕ) (n : ℕ)
      → moved (b ∷ t) n (within (c ∷ w) tok σ) ≡ moved t (suc n) (cond (eqb b c) (within w tok σ) stop)
  within-cons c w b t n = after_nothing (run (b ∷ t) (suc n) (in_mark c w tok σ)) ∙ run-cons b t (suc n) (in_mark c w tok σ)

  within-whole : (w t : List ℕ) (n : ℕ) → common w t ≡ length w
      → moved t n (within w tok σ) ≡ behind (drop (length w) t) (n + suc (length w))
  within-whole [] t n h = ap (behind t) (omega arith)
  within-whole (c ∷ w) [] n h = absurd (omega arith)
  within-whole (c ∷ w) (b ∷ t) n h = within-cons c w b t n ∙ split (eqb b c) h (within-whole w t (suc n))
    where
      split : (x : Bool) → cond x (suc (common w t)) 0 ≡ length (c ∷ w)
          → (common w t ≡ length w → moved t (suc n) (within w tok σ) ≡ behind (drop (length w) t) (suc n + suc (length w)))
          → moved t (suc n) (cond x (within w tok σ) stop) ≡ behind (drop (length w) t) (n + suc (length (c ∷ w)))
      split true l ih = ih (omega arith) ∙ ap (behind (drop (length w) t)) (omega arith)
      split false l ih = absurd (omega arith)

  within-part : (w t : List ℕ) (n : ℕ) → common w t < length w → moved t n (within w tok σ) ≡ fault (n + suc (common w t))
  unfolding run
  within-part [] t n h = absurd (omega arith)
  within-part (c ∷ w) [] n h = ap fault (omega arith)
  within-part (c ∷ w) (b ∷ t) n h = within-cons c w b t n ∙ split (eqb b c) h (within-part w t (suc n))
    where
      split : (x : Bool) → cond x (suc (common w t)) 0 < length (c ∷ w)
          → (common w t < length w → moved t (suc n) (within w tok σ) ≡ fault (suc n + suc (common w t)))
          → moved t (suc n) (cond x (within w tok σ) stop) ≡ fault (n + suc (cond x (suc (common w t)) 0))
      split true l ih = ih (omega arith) ∙ ap fault (omega arith)
      split false l ih = ap fault (omega arith)

-- ---- from its first byte on

-- the token of an entry that the symbol X allows, with its first byte at a place of the text
module _ (X : Symbol) (e : Entry) (m : Memᴰ e (marks X)) (a : Bool) (σ : List Symbol) (s : List ℕ) (at : ℕ) (h : at < length s)
    (first : get_or s at 0 ≡ get_or e.0 0 0) (loose : (a && is_capital (get_or e.0 0 0)) ≡ false) where
  -- the bytes behind the first one, and the text there
  abbrev later : List ℕ
  later = drop 1 e.0

  abbrev text : List ℕ
  text = drop (at + 1) s

  enters : run (drop at s) at (gap a (X ∷ σ)) ≡ moved text at (within later (mark e.0) (e.1 ++ σ))
  enters = run_step s at (gap a (X ∷ σ)) h ∙ ap (moved text at) (at_mark a X σ (get_or s at 0) e m first loose)

  pub literal-whole :
      (next : ℕ) → next ≡ at + suc (length later) → common later text ≡ length later
      → run (drop at s) at (gap a (X ∷ σ)) ≡ behind (mark e.0) (e.1 ++ σ) (drop next s) next
  literal-whole next p q =
      let place : at + suc (length later) ≡ next = omega arith in
      let place' : at + 1 + length later ≡ next = omega arith in
      let left : drop (length later) text ≡ drop next s = rw (drop-drop, place') in
      enters ∙ within-whole (mark e.0) (e.1 ++ σ) later text at q ∙ rw (left, place)

  pub literal-part : common later text < length later → run (drop at s) at (gap a (X ∷ σ)) ≡ fault (at + suc (common later text))
  literal-part q = enters ∙ within-part (mark e.0) (e.1 ++ σ) later text at q
