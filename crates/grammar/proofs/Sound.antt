-- What the machine accepts from a state is what the state stands for (`sound`), by one step back: before a byte that is taken stands what
-- stands after it, with that byte (`back`). Assumes nothing.
use mathlib.Core.Path.{◌≡◌, refl, sym, ap, ◌∙◌, subst⁻¹}
use mathlib.Core.Bool.{Bool, true, false, cond, ◌&&◌}
use mathlib.Core.Bool as B
use mathlib.Core.List.{List, [], ◌∷◌, ◌++◌, Memᴰ}
use mathlib.Core.Option.{Option, none, some}
use Prim.Native.Nat.{ℕ, suc, ◌+◌, ◌*◌, ◌-◌, ◌≤◌}
use native.Mathlib.Omega.{arith}
use native.Mathlib.Nat.{le_trans}
use lib.Dec.{eqb, leb}
use lib.ListN.{get_or, drop}
use borrow.Author.Tests.{eqb-true, eqb-false, leb-true, not-true}
use Rattle.tsparql.proofs.ListLaws.{and_left, and_right}
use Rattle.grammar.specs.Tokens.{Token, mark, var, num, neg, is_word_or_number, is_word_number_or_variable, is_capital, is_space}
use Rattle.grammar.specs.Tokens.{Written, done, space}
use Rattle.grammar.specs.Automaton.{Symbol, Entry, marks, vars, terms, is_bound, Kind, k_num, k_neg, token_of}
use Rattle.grammar.specs.Automaton.{State, gap, in_mark, first, in_number, Move, stop, go, prepend, digit, within}
use Rattle.grammar.specs.Automaton.{on_mark, on_var, on_term, onto, in_gap, step, Outcome, accepted, fault, after, finish, run}
use Rattle.grammar.proofs.Accepts.{Step, by_mark, by_var, by_term, by_plus, by_minus, Accepts, over, then}
use Rattle.grammar.proofs.Numerals.{IsDigit, Digits, more, numeral}
use Rattle.grammar.proofs.Numerals.{Spells, of_mark, of_var, of_num, of_neg}
use Rattle.grammar.proofs.TableFacts.{Begins, fact_of, find-mem}
use Rattle.grammar.proofs.Basics.{cond_cases}
use Rattle.grammar.proofs.States.{InMark, InNumber, Rest, Good, ended, spelled, digit-true}

-- ---- back: before a move stands what stands after it, and the byte

abbrev pub Back : State → ℕ → Move → Type 0
Back st b stop = Unit {0}
Back st b (go ts st') = Good st' × ((us : List Token) (s : List ℕ) → Rest st' us s → Rest st (ts ++ us) (b ∷ s))

-- inside a fixed token
back-within : (st : State) (b : ℕ) (w : List ℕ) (t : Token) (σ : List Symbol)
    → ((us : List Token) (s : List ℕ) → InMark w t σ us s → Rest st us (b ∷ s)) → Back st b (within w t σ)
back-within st b [] t σ f =
    (tt, λ us s r. f (t ∷ us) s (record { tail = s; tokens = us; bytes = refl; same = refl; accepts = r.0; written = r.1 }))
back-within st b (c ∷ w) t σ f = (tt, f)

module _ (a : Bool) (X : Symbol) (σ : List Symbol) (b : ℕ) where
  -- a token at its first byte: that it may come, and how it is written
  back-token : {us : List Token} {s : List ℕ} {ts : List Token} (t : Token) (u r : List ℕ) {α : List Symbol} → us ≡ t ∷ ts → Step X t α
      → Accepts (α ++ σ) ts → (a && is_word_or_number t) ≡ false → Spells t u → b ∷ s ≡ u ++ r → Written (is_word_number_or_variable t) ts r
      → Rest (gap a (X ∷ σ)) us (b ∷ s)
  back-token {us} {s} t u r e st x h sp q w = (
    subst⁻¹ (Accepts (X ∷ σ)) e (then st x),
    subst⁻¹ (λ (l : List Token). Written a l (b ∷ s)) e (spelled t u r h sp q w),
  )

  back-mark : (e : Entry) → Memᴰ e (marks X) → b ≡ get_or e.0 0 0 → Begins e → Back (gap a (X ∷ σ)) b (on_mark a σ (some e))
  back-mark e m q f =
      let P = Back (gap a (X ∷ σ)) b in
      cond_cases P (a && is_capital (get_or e.0 0 0)) (λ c. tt)
      (λ c. back-within (gap a (X ∷ σ)) b (drop 1 e.0) (mark e.0) (e.1 ++ σ) (λ us s r.
      back-token (mark e.0) e.0 r.tail r.same (by_mark e.0 e.1 m) r.accepts c of_mark
      (ap (λ (x : ℕ). x ∷ s) q ∙ ap (λ (l : List ℕ). get_or e.0 0 0 ∷ l) r.bytes ∙ ap (λ (l : List ℕ). l ++ r.tail) (sym f))
      r.written))

  back-var : b ≡ 63 → (o : Option (List Symbol)) → vars X ≡ o → Back (gap a (X ∷ σ)) b (on_var σ o)
  back-var q none e = tt
  back-var q (some α) e = (
    (omega arith, omega arith),
    λ us s r. back-token (var r.value) (63 ∷ r.digits) r.tail r.same (by_var r.value r.most e) r.accepts (B.and-false a)
        (of_var r.reads) (cc r.bytes) r.written,
  )

  back-minus : b ≡ 45 → (c : Bool) → (is_bound X && B.not a) ≡ c → Back (gap a (X ∷ σ)) b (cond c (go [] (first 1 1000 k_neg σ)) stop)
  back-minus q false e = tt
  back-minus q true e =
      let h = and_left (is_bound X) (B.not a) e in
      let i = not-true a (and_right (is_bound X) (B.not a) e) in (
        (omega arith, omega arith),
        λ us s r. back-token (neg r.value) (45 ∷ r.digits) r.tail r.same (by_minus r.value r.least r.most h)
            r.accepts (B.and-true a ∙ i) (of_neg r.reads) (cc r.bytes) r.written,
      )

  -- a number at its first digit
  back-num : {us : List Token} {s : List ℕ} (l u : ℕ) {α : List Symbol} → IsDigit b → a ≡ false
      → (r : InNumber l u (λ w n. Digits (b - 48) w n) k_num (α ++ σ) us s) → Step X (num r.value) α → Rest (gap a (X ∷ σ)) us (b ∷ s)
  back-num l u d q r st =
      back-token (num r.value) (b ∷ r.digits) r.tail r.same st r.accepts (B.and-true a ∙ q) (of_num (numeral b d r.reads))
      (cc r.bytes) r.written

  back-bound : IsDigit b → a ≡ false → is_bound X ≡ true → Back (gap a (X ∷ σ)) b (go [] (in_number 1000 (b - 48) k_num σ))
  back-bound d q e =
      let h = d.most in
      (omega arith, λ us s r. back-num (b - 48) 1000 {α = []} d q r (by_plus r.value r.most e))

  back-term : IsDigit b → a ≡ false → is_bound X ≡ false → (o : Option (List Symbol)) → terms X ≡ o → Back (gap a (X ∷ σ)) b (on_term b σ o)
  back-term d q f none e = tt
  back-term d q f (some α) e =
      cond_cases (Back (gap a (X ∷ σ)) b) (eqb b 48) (λ z. tt) (λ z.
      let h = d.most in
      let l : 1 ≤ b - 48 = let i = d.least in let n = eqb-false b 48 z in omega arith in
      (omega arith, λ us s r. back-num (b - 48) 1048575 {α = α} d q r (by_term r.value (le_trans l r.least) r.most e f)))

back-onto : (a : Bool) (σ : List Symbol) (b : ℕ) → Back (gap a σ) b (onto a σ b)
unfolding onto
back-onto a [] b = tt
back-onto a (X ∷ σ) b =
    let P = Back (gap a (X ∷ σ)) b in
    cond_cases P (eqb b 63) (λ q. back-var a X σ b (eqb-true b 63 q) (vars X) refl) (λ q.
    cond_cases P (eqb b 45) (λ q. back-minus a X σ b (eqb-true b 45 q) (is_bound X && B.not a) refl) (λ q.
    cond_cases P (digit b)
    (λ d. cond_cases P a (λ t. tt) (λ t.
    cond_cases P (is_bound X) (λ h. back-bound a X σ b (digit-true b d) t h) (λ h. back-term a X σ b (digit-true b d) t h (terms X) refl)))
    (λ d. find-mem b (marks X) (λ o. P (on_mark a σ o)) tt (λ e m h. back-mark a X σ b e m h (fact_of X m).begins))))

back-gap : (a : Bool) (σ : List Symbol) (b : ℕ) → Back (gap a σ) b (in_gap a σ b)
back-gap a σ b =
    cond_cases (Back (gap a σ) b) (is_space b) (λ e. (tt, λ us s r. (r.0, space b e r.1))) (λ e. back-onto a σ b)

-- a number that ends before the byte
back-number : (u v : ℕ) (k : Kind) (σ : List Symbol) (b : ℕ) → v ≤ u → (m : Move) → Back (gap true σ) b m
    → Back (in_number u v k σ) b (prepend (token_of k v) m)
back-number u v k σ b h stop f = tt
back-number u v k σ b h (go ts st) f = (f.0, λ us s r. let g = f.1 us s r in ended u v k σ (ts ++ us) (b ∷ s) h g.0 g.1)

-- one digit more
longer : {l v u : ℕ} {Digs Digs' : List ℕ → ℕ → Type 0} {k : Kind} {σ : List Symbol} {us : List Token} {s : List ℕ} (b : ℕ) → l ≤ v
    → (r : InNumber v u Digs k σ us s) → Digs' (b ∷ r.digits) r.value → InNumber l u Digs' k σ us (b ∷ s)
longer b h r reads =
    record {
      value = r.value;
      digits = b ∷ r.digits;
      tail = r.tail;
      tokens = r.tokens;
      bytes = ap (λ (l : List ℕ). b ∷ l) r.bytes;
      same = r.same;
      reads = reads;
      least = le_trans h r.least;
      most = r.most;
      accepts = r.accepts;
      written = r.written;
    }

pub back : (st : State) (b : ℕ) → Good st → Back st b (step st b)
back (gap a σ) b g = back-gap a σ b
back (in_mark c w t σ) b g =
    cond_cases (Back (in_mark c w t σ) b) (eqb b c)
    (λ e. back-within (in_mark c w t σ) b w t σ (λ us s r.
    record {
      tail = r.tail;
      tokens = r.tokens;
      bytes = ap (λ (x : ℕ). x ∷ s) (eqb-true b c e) ∙ ap (λ (l : List ℕ). c ∷ l) r.bytes;
      same = r.same;
      accepts = r.accepts;
      written = r.written;
    }))
    (λ e. tt)
back (first l u k σ) b g =
    cond_cases (Back (first l u k σ) b) (digit b && leb l (b - 48))
    (λ e.
    let d = digit-true b (and_left (digit b) (leb l (b - 48)) e) in
    let i = leb-true l (b - 48) (and_right (digit b) (leb l (b - 48)) e) in
    let h = d.most in
    let nine : 9 ≤ u = g.1 in
    (omega arith, λ us s r. longer b i r (numeral b d r.reads)))
    (λ e. tt)
back (in_number u v k σ) b g =
    cond_cases (Back (in_number u v k σ) b) (digit b && (leb 1 v && leb (v * 10 + (b - 48)) u))
    (λ e.
    let d = digit-true b (and_left (digit b) (leb 1 v && leb (v * 10 + (b - 48)) u) e) in
    let f = and_right (digit b) (leb 1 v && leb (v * 10 + (b - 48)) u) e in
    let l = leb-true 1 v (and_left (leb 1 v) (leb (v * 10 + (b - 48)) u) f) in
    let m = leb-true _ _ (and_right (leb 1 v) (leb (v * 10 + (b - 48)) u) f) in
    (m, λ us s r. longer b (omega arith) r (more b l d r.reads)))
    (λ e. back-number u v k σ b g (in_gap true σ b) (back-gap true σ b))

-- ---- sound: what is accepted from a state is what the state stands for

abbrev pub Sound : State → List ℕ → Outcome → Type 0
Sound st s (accepted ts) = Rest st ts s
Sound st s (fault n) = Unit {0}

sound-end : (st : State) (n : ℕ) → Good st → Sound st [] (finish n st)
sound-end (gap a []) n g = (over, done)
sound-end (gap a (X ∷ σ)) n g = tt
sound-end (in_mark c w t σ) n g = tt
sound-end (first l u k σ) n g = tt
sound-end (in_number u v k []) n g = ended u v k [] [] [] g over done
sound-end (in_number u v k (X ∷ σ)) n g = tt

sound-after : (st st' : State) (b : ℕ) (s : List ℕ) (ts : List Token) (o : Outcome) → Sound st' s o
    → ((us : List Token) (r : List ℕ) → Rest st' us r → Rest st (ts ++ us) (b ∷ r)) → Sound st (b ∷ s) (after ts o)
sound-after st st' b s ts (accepted us) h f = f us s h
sound-after st st' b s ts (fault n) h f = tt

-- the run after a move
abbrev pub follow : List ℕ → ℕ → Move → Outcome
follow s n m = elim m [ stop ↦ fault n | go ts st' ↦ after ts (run s (suc n) st') ]

sound-move : (st : State) (b : ℕ) (s : List ℕ) (n : ℕ) (m : Move) → Back st b m
    → ((st' : State) → Good st' → Sound st' s (run s (suc n) st')) → Sound st (b ∷ s) (follow s n m)
sound-move st b s n stop f ih = tt
sound-move st b s n (go ts st') f ih = sound-after st st' b s ts (run s (suc n) st') (ih st' f.0) f.1

pub sound : (s : List ℕ) (n : ℕ) (st : State) → Good st → Sound st s (run s n st)
unfolding run
sound [] n st g = sound-end st n g
sound (b ∷ s) n st g = sound-move st b s n (step st b) (back st b g) (λ st' h. sound s (suc n) st' h)
