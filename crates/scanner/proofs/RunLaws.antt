-- The automaton at a place of the text: its step there (`run_step`), where it goes on (`move_at`) or stops (`stop-at`), and the end of the
-- text (`end-at`). Assumes nothing.
use mathlib.Core.Path.{◌≡◌, refl, sym, ap, ◌∙◌}
use mathlib.Core.List.{List, [], ◌∷◌, ◌++◌, append_assoc}
use Prim.Native.Nat.{ℕ, suc, ◌+◌, ◌≤◌, ◌<◌}
use native.Mathlib.Numerals.{add-one}
use lib.ListN.{length, drop, get_or, drop_of_length-le}
use lib.Seq.{drop-cons}
use Rattle.grammar.specs.Tokens.{Token}
use Rattle.grammar.specs.Automaton.{State, Move, stop, go, prepend, step, Outcome, accepted, fault, after, finish, run}

pub after_nothing : (o : Outcome) → after [] o ≡ o
after_nothing (accepted ts) = refl
after_nothing (fault n) = refl

pub after-after : (ts us : List Token) (o : Outcome) → after ts (after us o) ≡ after (ts ++ us) o
after-after ts us (accepted vs) = ap accepted (sym (append_assoc ts us vs))
after-after ts us (fault n) = refl

-- what a move at place n leads to, before the text s
abbrev pub moved : List ℕ → ℕ → Move → Outcome
moved s n m = elim m [ stop ↦ fault n | go ts st ↦ after ts (run s (suc n) st) ]

pub moved-prepend : (s : List ℕ) (n : ℕ) (t : Token) (m : Move) → moved s n (prepend t m) ≡ after (t ∷ []) (moved s n m)
moved-prepend s n t stop = refl
moved-prepend s n t (go ts st) = sym (after-after (t ∷ []) ts (run s (suc n) st))

pub run-cons : (b : ℕ) (s : List ℕ) (n : ℕ) (st : State) → run (b ∷ s) n st ≡ moved s n (step st b)
unfolding run
run-cons b s n st = refl

-- ---- at a place

pub run_step : (s : List ℕ) (i : ℕ) (st : State) → i < length s → run (drop i s) i st ≡ moved (drop (i + 1) s) i (step st (get_or s i 0))
run_step s i st h = rw (add-one, drop-cons s i 0 h) (run-cons (get_or s i 0) (drop (suc i) s) i st)

module _ (s : List ℕ) (i : ℕ) (st : State) where
  pub move_at : (st' : State) → i < length s → step st (get_or s i 0) ≡ go [] st' → run (drop i s) i st ≡ run (drop (i + 1) s) (i + 1) st'
  move_at st' h e =
      run_step s i st h ∙ ap (moved (drop (i + 1) s) i) e ∙ after_nothing (run (drop (i + 1) s) (suc i) st')
      ∙ ap (λ (n : ℕ). run (drop (i + 1) s) n st') (sym (add-one i))

  -- a state with the same step
  pub same_at : (st' : State) → i < length s → step st (get_or s i 0) ≡ step st' (get_or s i 0) → run (drop i s) i st ≡ run (drop i s) i st'
  same_at st' h e = run_step s i st h ∙ ap (moved (drop (i + 1) s) i) e ∙ sym (run_step s i st' h)

  pub stop-at : i < length s → step st (get_or s i 0) ≡ stop → run (drop i s) i st ≡ fault i
  stop-at h e = run_step s i st h ∙ ap (moved (drop (i + 1) s) i) e

  pub end-at : length s ≤ i → run (drop i s) i st ≡ finish i st
  unfolding run
  end-at h = rw (drop_of_length-le s h)
