-- The automaton's step at the first byte of a token, by the byte and the symbol on top: a variable (`var-..`), a minus sign (`minus-..`),
-- a digit (`digit-..`), a fixed token (`mark-..`). Assumes nothing.
use mathlib.Core.Path.{◌≡◌, refl, sym, ◌∙◌}
use mathlib.Core.Bool.{Bool, true, false, cond, ◌&&◌, not}
use mathlib.Core.List.{List, [], ◌∷◌, ◌++◌}
use mathlib.Core.Option.{none, some}
use Prim.Native.Nat.{ℕ, ◌-◌, ◌≤◌}
use native.Mathlib.Omega.{arith}
use lib.Dec.{eqb, leb}
use lib.ListN.{get_or}
use borrow.Author.Tests.{eqb-true, eqb-false, le-leb, lt-leb, ne_eqb}
use Rattle.grammar.specs.Tokens.{is_space, is_capital}
use Rattle.grammar.specs.Automaton.{Symbol, Entry, marks, vars, terms, is_bound, digit, find}
use Rattle.grammar.specs.Automaton.{k_var, k_num, k_neg, gap, first, in_number, stop, go, step, onto, on_term}

-- no variable, number or white space begins with the byte
pub record Other (byte : ℕ) : Type 0 where
  pub no_space : is_space byte ≡ false
  pub no_question_mark : eqb byte 63 ≡ false
  pub no_minus : eqb byte 45 ≡ false
  pub no_digit : digit byte ≡ false

module _ (a : Bool) (X : Symbol) (σ : List Symbol) (b : ℕ) where
  pub var-none : b ≡ 63 → vars X ≡ none → step (gap a (X ∷ σ)) b ≡ stop
  unfolding onto
  var-none q e = rw (q, e)

  pub var-some : (α : List Symbol) → b ≡ 63 → vars X ≡ some α → step (gap a (X ∷ σ)) b ≡ go [] (first 0 15 k_var (α ++ σ))
  unfolding onto
  var-some α q e = rw (q, e)

  pub minus-stop : b ≡ 45 → (is_bound X && not a) ≡ false → step (gap a (X ∷ σ)) b ≡ stop
  unfolding onto
  minus-stop q e = rw (q, e)

  pub minus-bound : b ≡ 45 → (is_bound X && not a) ≡ true → step (gap a (X ∷ σ)) b ≡ go [] (first 1 1000 k_neg σ)
  unfolding onto
  minus-bound q e = rw (q, e)

  module _ (l : 48 ≤ b) (m : b ≤ 57) where
    digit-onto :
        step (gap a (X ∷ σ)) b ≡ cond a stop (cond (is_bound X) (go [] (in_number 1000 (b - 48) k_num σ)) (on_term b σ (terms X)))
    unfolding onto
    digit-onto =
        let no_space : eqb b 32 ≡ false = ne_eqb b 32 (λ e. omega arith) in
        let no_line : eqb b 10 ≡ false = ne_eqb b 10 (λ e. omega arith) in
        let no_question_mark : eqb b 63 ≡ false = ne_eqb b 63 (λ e. omega arith) in
        let no_minus : eqb b 45 ≡ false = ne_eqb b 45 (λ e. omega arith) in
        rw (no_space, no_line, no_question_mark, no_minus, le-leb 48 b l, le-leb b 57 m)

    pub digit-tight : a ≡ true → step (gap a (X ∷ σ)) b ≡ stop
    digit-tight h = digit-onto ∙ rw h

    module _ (h : a ≡ false) where
      pub digit-bound : is_bound X ≡ true → step (gap a (X ∷ σ)) b ≡ step (first 0 1000 k_num σ) b
      digit-bound e = digit-onto ∙ rw (h, e) (sym (rw (le-leb 48 b l, le-leb b 57 m, le-leb 0 (b - 48) (omega arith))))

      pub digit-none : is_bound X ≡ false → terms X ≡ none → step (gap a (X ∷ σ)) b ≡ stop
      digit-none e t = digit-onto ∙ rw (h, e, t)

      pub digit-term : (α : List Symbol) → is_bound X ≡ false → terms X ≡ some α
          → step (gap a (X ∷ σ)) b ≡ step (first 1 1048575 k_num (α ++ σ)) b
      digit-term α e t = digit-onto ∙ rw (h, e, t, le-leb 48 b l, le-leb b 57 m) (split (eqb b 48) refl)
        where
          split : (x : Bool) → eqb b 48 ≡ x
              → cond (eqb b 48) stop (go [] (in_number 1048575 (b - 48) k_num (α ++ σ)))
              ≡ cond (leb 1 (b - 48)) (go [] (in_number 1048575 (b - 48) k_num (α ++ σ))) stop
          split true q = let z = eqb-true b 48 q in rw (q, lt-leb 1 (b - 48) (omega arith))
          split false q = let z = eqb-false b 48 q in rw (q, le-leb 1 (b - 48) (omega arith))

  pub mark-none : Other b → find b (marks X) ≡ none → step (gap a (X ∷ σ)) b ≡ stop
  unfolding onto
  mark-none o e = rw (o.no_space, o.no_question_mark, o.no_minus, o.no_digit, e)

  pub mark-tight : Other b → (e : Entry) → find b (marks X) ≡ some e → (a && is_capital (get_or e.0 0 0)) ≡ true
      → step (gap a (X ∷ σ)) b ≡ stop
  unfolding onto
  mark-tight o e f c = rw (o.no_space, o.no_question_mark, o.no_minus, o.no_digit, f, c)
