-- What a state stands for is accepted (`complete`), by one step forth: its first byte is taken, and what is left is what the next state
-- stands for (`forth`). Assumes nothing.
use mathlib.Core.Path.{◌≡◌, refl, sym, ap, ◌∙◌, subst, subst⁻¹}
use mathlib.Core.Bool.{Bool, true, false, ◌&&◌, false≢true}
use mathlib.Core.Bool as B
use mathlib.Core.List.{List, [], ◌∷◌, ◌++◌, Memᴰ}
use mathlib.Core.List.{nil≢cons, head-eq_of_cons-eq as head-eq, tail-eq_of_cons-eq as tail-eq}
use mathlib.Core.Option.{some}
use Prim.Native.Nat.{ℕ, suc, ◌+◌, ◌*◌, ◌-◌, ◌≤◌}
use native.Mathlib.Omega.{arith}
use lib.Dec.{eqb}
use lib.ListN.{get_or, drop}
use borrow.Author.Tests.{eqb-true, le-leb, lt-leb, eq-eqb, ne_eqb}
use Rattle.grammar.specs.Tokens.{Token, mark, num, spelling, is_word_or_number, is_word_number_or_variable, is_capital, is_space}
use Rattle.grammar.specs.Tokens.{Written, space, token}
use Rattle.grammar.specs.Automaton.{Symbol, Entry, marks, vars, terms, is_bound, Kind, k_var, k_num, k_neg, token_of}
use Rattle.grammar.specs.Automaton.{State, gap, in_mark, first, in_number, Move, go, prepend, digit, within}
use Rattle.grammar.specs.Automaton.{onto, in_gap, step, accepted, fault, after, finish, run}
use Rattle.grammar.proofs.Accepts.{Step, by_mark, by_var, by_term, by_plus, by_minus, Accepts, over, then}
use Rattle.grammar.proofs.Numerals.{IsDigit, Digits, more, Numeral, numeral, digits-grow, no-leading}
use Rattle.grammar.proofs.Numerals.{Spells, of_mark, of_var, of_num, of_neg, spelling-spells}
use Rattle.grammar.proofs.Numerals as N
use Rattle.grammar.proofs.TableFacts.{fact_of}
use Rattle.grammar.proofs.States.{InMark, Rest, Good, is_digit}
use Rattle.grammar.proofs.Sound.{Back, back}

-- ---- forth: what a state stands for, its first byte moves on

-- a move, the tokens that it ends, and what is left
pub record Forth (ts : List Token) (s : List ℕ) (m : Move) : Type 0 where
  pub taken : List Token
  pub state : State
  pub left : List Token
  pub moves : m ≡ go taken state
  pub same : ts ≡ taken ++ left
  pub rests : Rest state left s

-- no token ends
forth-in : {ts : List Token} {s : List ℕ} {m : Move} (st : State) → m ≡ go [] st → Rest st ts s → Forth ts s m
forth-in {ts} st e r = record { taken = []; state = st; left = ts; moves = e; same = refl; rests = r }

forth-within : (w : List ℕ) (t : Token) (σ : List Symbol) (ts : List Token) (s : List ℕ) → InMark w t σ ts s → Forth ts s (within w t σ)
forth-within [] t σ ts s r =
    record {
      taken = t ∷ [];
      state = gap (is_word_number_or_variable t) σ;
      left = r.tokens;
      moves = refl;
      same = r.same;
      rests = (r.accepts, subst⁻¹ (Written (is_word_number_or_variable t) r.tokens) r.bytes r.written);
    }
forth-within (c ∷ w) t σ ts s r = forth-in (in_mark c w t σ) refl r

digit-space : (b : ℕ) → IsDigit b → is_space b ≡ false
digit-space b d = let l = d.least in rw (ne_eqb b 32 (λ e. omega arith), ne_eqb b 10 (λ e. omega arith))

digit-query : (b : ℕ) → IsDigit b → eqb b 63 ≡ false
digit-query b d = let l = d.most in ne_eqb b 63 (λ e. omega arith)

digit-minus : (b : ℕ) → IsDigit b → eqb b 45 ≡ false
digit-minus b d = let l = d.least in ne_eqb b 45 (λ e. omega arith)

module _ (a : Bool) (X : Symbol) (σ : List Symbol) (b : ℕ) where
  -- what the table does with a byte, by the byte's kind
  pub at_mark : (e : Entry) → Memᴰ e (marks X) → b ≡ get_or e.0 0 0 → (a && is_capital (get_or e.0 0 0)) ≡ false
      → in_gap a (X ∷ σ) b ≡ within (drop 1 e.0) (mark e.0) (e.1 ++ σ)
  unfolding onto
  at_mark e m q h = let f = fact_of X m in rw (q, f.no_space, f.no_query, f.no_minus, f.no_digit, f.found, h)

  at-var : (α : List Symbol) → b ≡ 63 → vars X ≡ some α → in_gap a (X ∷ σ) b ≡ go [] (first 0 15 k_var (α ++ σ))
  unfolding onto
  at-var α q e = rw (q, e)

  at-minus : b ≡ 45 → is_bound X ≡ true → a ≡ false → in_gap a (X ∷ σ) b ≡ go [] (first 1 1000 k_neg σ)
  unfolding onto
  at-minus q e h = rw (q, e, h)

  at_bound : IsDigit b → is_bound X ≡ true → a ≡ false → in_gap a (X ∷ σ) b ≡ go [] (in_number 1000 (b - 48) k_num σ)
  unfolding onto
  at_bound d e h = rw (digit-space b d, digit-query b d, digit-minus b d, is_digit b d, h, e)

  at-term : (α : List Symbol) → IsDigit b → (b ≡ 48 → ⊥) → is_bound X ≡ false → terms X ≡ some α → a ≡ false
      → in_gap a (X ∷ σ) b ≡ go [] (in_number 1048575 (b - 48) k_num (α ++ σ))
  unfolding onto
  at-term α d z f e h = rw (digit-space b d, digit-query b d, digit-minus b d, is_digit b d, h, f, e, ne_eqb b 48 z)

-- a number behind its first digit
in-number : (u : ℕ) (σ : List Symbol) (b c : ℕ) (s w r : List ℕ) (n : ℕ) (ts : List Token) → b ∷ s ≡ c ∷ (w ++ r) → Digits (c - 48) w n
    → n ≤ u → Accepts σ ts → Written true ts r → Rest (in_number u (b - 48) k_num σ) (num n ∷ ts) s
in-number u σ b c s w r n ts q g m x y =
    let k : b ≡ c = head-eq q in
    record {
      value = n;
      digits = w;
      tail = r;
      tokens = ts;
      bytes = tail-eq q;
      same = refl;
      reads = subst⁻¹ (λ (i : ℕ). Digits (i - 48) w n) k g;
      least = subst⁻¹ (λ (i : ℕ). i - 48 ≤ n) k (digits-grow g);
      most = m;
      accepts = x;
      written = y;
    }

-- a variable or a number below 0, behind its sign
before-number : (l u : ℕ) (k : Kind) (σ : List Symbol) (s w r : List ℕ) (n : ℕ) (ts : List Token) → s ≡ w ++ r → Numeral n w → l ≤ n → n ≤ u
    → Accepts σ ts → Written true ts r → Rest (first l u k σ) (token_of k n ∷ ts) s
before-number l u k σ s w r n ts q d i m x y =
    record {
      value = n;
      digits = w;
      tail = r;
      tokens = ts;
      bytes = q;
      same = refl;
      reads = d;
      least = i;
      most = m;
      accepts = x;
      written = y;
    }

-- a token at its first byte
forth-token : (a : Bool) {X : Symbol} (σ : List Symbol) {t : Token} {α : List Symbol} (ts : List Token) (u r : List ℕ) (b : ℕ) (s : List ℕ)
    → Step X t α → Spells t u → (a && is_word_or_number t) ≡ false → b ∷ s ≡ u ++ r → Accepts (α ++ σ) ts
    → Written (is_word_number_or_variable t) ts r → Forth (t ∷ ts) s (in_gap a (X ∷ σ) b)
forth-token a {X} σ ts u r b s (by_mark w α m) of_mark h q x y =
    let p : b ∷ s ≡ get_or w 0 0 ∷ (drop 1 w ++ r) = q ∙ ap (λ (l : List ℕ). l ++ r) (fact_of X m).begins in
    subst⁻¹ (Forth (mark w ∷ ts) s) (at_mark a X σ b (w, α) m (head-eq p) h)
    (forth-within (drop 1 w) (mark w) (α ++ σ) (mark w ∷ ts) s
    (record { tail = r; tokens = ts; bytes = tail-eq p; same = refl; accepts = x; written = y }))
forth-token a {X} σ {α = α} ts u r b s (by_var n l e) (of_var {w = w} d) h q x y =
    forth-in (first 0 15 k_var (α ++ σ)) (at-var a X σ b α (head-eq q) e)
    (before-number 0 15 k_var (α ++ σ) s w r n ts (tail-eq q) d (omega arith) l x y)
forth-token a {X} σ {α = α} ts u r b s (by_term n l m e f) (of_num (numeral {w = w} c d g)) h q x y =
    let k : b ≡ c = head-eq q in
    let z : c ≡ 48 → ⊥ = λ i. not-zero c n w i g l in
    forth-in (in_number 1048575 (b - 48) k_num (α ++ σ))
    (at-term a X σ b α (subst⁻¹ IsDigit k d) (λ i. z (sym k ∙ i)) f e (sym (B.and-true a) ∙ h))
    (in-number 1048575 (α ++ σ) b c s w r n ts q g m x y)
  where
    not-zero : (c n : ℕ) (w : List ℕ) → c ≡ 48 → Digits (c - 48) w n → 1 ≤ n → ⊥
    not-zero c n w i g l =
        let z = (no-leading (subst (λ (k : ℕ). Digits (k - 48) w n) i g)).0 in
        omega arith
forth-token a {X} σ ts u r b s (by_plus n m e) (of_num (numeral {w = w} c d g)) h q x y =
    forth-in (in_number 1000 (b - 48) k_num σ) (at_bound a X σ b (subst⁻¹ IsDigit (head-eq q) d) e (sym (B.and-true a) ∙ h))
    (in-number 1000 σ b c s w r n ts q g m x y)
forth-token a {X} σ ts u r b s (by_minus n l m e) (of_neg {w = w} d) h q x y =
    forth-in (first 1 1000 k_neg σ) (at-minus a X σ b (head-eq q) e (sym (B.and-true a) ∙ h))
    (before-number 1 1000 k_neg σ s w r n ts (tail-eq q) d l m x y)

forth-gap : (a : Bool) (σ : List Symbol) {ts : List Token} (b : ℕ) (s : List ℕ) → Accepts σ ts → Written a ts (b ∷ s)
    → Forth ts s (in_gap a σ b)
forth-gap a σ b s x (space c e w) = forth-in (gap false σ) (rw e) (x, w)
forth-gap a σ b s x (token {ts = us} t r h q w) = taking x
  where
    taking : {σ : List Symbol} → Accepts σ (t ∷ us) → Forth (t ∷ us) s (in_gap a σ b)
    taking (then {σ = σ'} st y) = forth-token a σ' us (spelling t) r b s st (spelling-spells t) h q y w

-- directly after a word, number or variable no digit stands
tight-token : {X : Symbol} {t : Token} {α : List Symbol} (u r : List ℕ) (b : ℕ) (s : List ℕ) → Step X t α → Spells t u
    → is_word_or_number t ≡ false → b ∷ s ≡ u ++ r → digit b ≡ false
tight-token {X} u r b s (by_mark w α m) of_mark h q =
    let f = fact_of X m in
    let p : b ∷ s ≡ get_or w 0 0 ∷ (drop 1 w ++ r) = q ∙ ap (λ (l : List ℕ). l ++ r) f.begins in
    subst⁻¹ (λ (c : ℕ). digit c ≡ false) (head-eq p) f.no_digit
tight-token u r b s (by_var n l e) (of_var d) h q = subst⁻¹ (λ (c : ℕ). digit c ≡ false) (head-eq q) refl
tight-token u r b s (by_term n l m e f) (of_num d) h q = absurd (false≢true (sym h))
tight-token u r b s (by_plus n m e) (of_num d) h q = absurd (false≢true (sym h))
tight-token u r b s (by_minus n l m e) (of_neg d) h q = absurd (false≢true (sym h))

space-digit : (b : ℕ) → is_space b ≡ true → digit b ≡ false
space-digit b e = cases (eqb b 32) refl
  where
    cases : (c : Bool) → eqb b 32 ≡ c → digit b ≡ false
    cases true q = let h = eqb-true b 32 q in rw (lt-leb 48 b (omega arith))
    cases false q = let g : eqb b 10 ≡ true = rw q at e in let h = eqb-true b 10 g in rw (lt-leb 48 b (omega arith))

tight : {σ : List Symbol} {ts : List Token} (b : ℕ) (s : List ℕ) → Accepts σ ts → Written true ts (b ∷ s) → digit b ≡ false
tight b s x (space c e w) = space-digit b e
tight b s x (token {ts = us} t r h q w) = taking x
  where
    taking : {σ : List Symbol} → Accepts σ (t ∷ us) → digit b ≡ false
    taking (then st y) = tight-token (spelling t) r b s st (spelling-spells t) h q

-- a number that ends before the byte
forth-end : (t : Token) (ts us : List Token) (s : List ℕ) (m : Move) → us ≡ t ∷ ts → Forth ts s m → Forth us s (prepend t m)
forth-end t ts us s m q f =
    record {
      taken = t ∷ f.taken;
      state = f.state;
      left = f.left;
      moves = ap (prepend t) f.moves;
      same = q ∙ ap (λ (l : List Token). t ∷ l) f.same;
      rests = f.rests;
    }

forth-number : (u v : ℕ) (k : Kind) (σ : List Symbol) (ts : List Token) (b : ℕ) (s : List ℕ) (n : ℕ) (w r : List ℕ) (us : List Token)
    → b ∷ s ≡ w ++ r → ts ≡ token_of k n ∷ us → Digits v w n → n ≤ u → Accepts σ us → Written true us r
    → Forth ts s (step (in_number u v k σ) b)
forth-number u v k σ ts b s n w r us q e N.none h x y =
    let z : Written true us (b ∷ s) = subst⁻¹ (Written true us) q y in
    rw (tight b s x z) (forth-end (token_of k v) us ts s (in_gap true σ b) e (forth-gap true σ b s x z))
forth-number u v k σ ts b s n w r us q e (more {w = w'} c l d g) h x y =
    let i : b ≡ c = head-eq q in
    let j : v * 10 + (c - 48) ≤ n = digits-grow g in
    let t : v * 10 + (b - 48) ≤ u = omega arith in
    forth-in (in_number u (v * 10 + (b - 48)) k σ) (rw (is_digit b (subst⁻¹ IsDigit i d), le-leb 1 v l, le-leb _ _ t))
    (record {
      value = n;
      digits = w';
      tail = r;
      tokens = us;
      bytes = tail-eq q;
      same = e;
      reads = subst⁻¹ (λ (k : ℕ). Digits (v * 10 + (k - 48)) w' n) i g;
      least = omega arith;
      most = h;
      accepts = x;
      written = y;
    })

first-digit : {l v n : ℕ} {w : List ℕ} → l ≤ 1 → l ≤ n → Digits v w n → l ≤ v
first-digit h i N.none = i
first-digit h i (more b l d r) = omega arith

forth-first : (l u : ℕ) (k : Kind) (σ : List Symbol) (ts : List Token) (b : ℕ) (s : List ℕ) (n : ℕ) (w r : List ℕ) (us : List Token)
    → l ≤ 1 → b ∷ s ≡ w ++ r → ts ≡ token_of k n ∷ us → Numeral n w → l ≤ n → n ≤ u → Accepts σ us → Written true us r
    → Forth ts s (step (first l u k σ) b)
forth-first l u k σ ts b s n w r us h q e (numeral {w = w'} c d g) m i x y =
    let j : b ≡ c = head-eq q in
    let g' : Digits (b - 48) w' n = subst⁻¹ (λ (k : ℕ). Digits (k - 48) w' n) j g in
    forth-in (in_number u (b - 48) k σ) (rw (is_digit b (subst⁻¹ IsDigit j d), le-leb l (b - 48) (first-digit h m g')))
    (record {
      value = n;
      digits = w';
      tail = r;
      tokens = us;
      bytes = tail-eq q;
      same = e;
      reads = g';
      least = digits-grow g';
      most = i;
      accepts = x;
      written = y;
    })

pub forth : (st : State) (ts : List Token) (b : ℕ) (s : List ℕ) → Good st → Rest st ts (b ∷ s) → Forth ts s (step st b)
forth (gap a σ) ts b s g r = forth-gap a σ b s r.0 r.1
forth (in_mark c w t σ) ts b s g r =
    rw (eq-eqb b c (head-eq r.bytes))
    (forth-within w t σ ts s
    (record {
      tail = r.tail;
      tokens = r.tokens;
      bytes = tail-eq r.bytes;
      same = r.same;
      accepts = r.accepts;
      written = r.written;
    }))
forth (first l u k σ) ts b s g r =
    forth-first l u k σ ts b s r.value r.digits r.tail r.tokens g.0 r.bytes r.same r.reads r.least r.most
    r.accepts r.written
forth (in_number u v k σ) ts b s g r =
    forth-number u v k σ ts b s r.value r.digits r.tail r.tokens r.bytes r.same r.reads r.most r.accepts
    r.written

-- ---- complete: what a state stands for is accepted

-- a token that may come has a byte
pub token-bytes : {X : Symbol} {t : Token} {α : List Symbol} {B : Type 0} (u r : List ℕ) → Step X t α → Spells t u → [] ≡ u ++ r → B
token-bytes {X} u r (by_mark w α m) of_mark q = absurd (nil≢cons (q ∙ ap (λ (l : List ℕ). l ++ r) (fact_of X m).begins))
token-bytes u r (by_var n l e) (of_var d) q = absurd (nil≢cons q)
token-bytes u r (by_term n l m e f) (of_num (numeral b d g)) q = absurd (nil≢cons q)
token-bytes u r (by_plus n m e) (of_num (numeral b d g)) q = absurd (nil≢cons q)
token-bytes u r (by_minus n l m e) (of_neg d) q = absurd (nil≢cons q)

-- no bytes write nothing
nothing : {a : Bool} (σ : List Symbol) (ts : List Token) → Accepts σ ts → Written a ts [] → (σ ≡ []) × (ts ≡ [])
nothing σ ts over w = (refl, refl)
nothing σ ts (then st y) (token t r h q w) = token-bytes (spelling t) r st (spelling-spells t) q

ended-number : (u v : ℕ) (k : Kind) (σ : List Symbol) (n : ℕ) (ts : List Token) (m : ℕ) (w r : List ℕ) (us : List Token) → [] ≡ w ++ r
    → ts ≡ token_of k m ∷ us → Digits v w m → Accepts σ us → Written true us r → finish n (in_number u v k σ) ≡ accepted ts
ended-number u v k σ n ts m w r us q e N.none x y =
    let z = nothing σ us x (subst⁻¹ (Written true us) q y) in
    rw z.0 (ap accepted (sym (e ∙ ap (λ (l : List Token). token_of k v ∷ l) z.1)))
ended-number u v k σ n ts m w r us q e (more b l d g) x y = absurd (nil≢cons q)

ended-first : (n m : ℕ) (ts : List Token) (w r : List ℕ) → [] ≡ w ++ r → Numeral m w → fault n ≡ accepted ts
ended-first n m ts w r q (numeral b d g) = absurd (nil≢cons q)

complete-end : (st : State) (n : ℕ) (ts : List Token) → Rest st ts [] → finish n st ≡ accepted ts
complete-end (gap a σ) n ts r = let z = nothing σ ts r.0 r.1 in rw z.0 (ap accepted (sym z.1))
complete-end (in_mark c w t σ) n ts r = absurd (nil≢cons r.bytes)
complete-end (first l u k σ) n ts r = ended-first n r.value ts r.digits r.tail r.bytes r.reads
complete-end (in_number u v k σ) n ts r =
    ended-number u v k σ n ts r.value r.digits r.tail r.tokens r.bytes r.same r.reads r.accepts r.written

good-go : (st st' : State) (b : ℕ) (ts : List Token) → Good st → step st b ≡ go ts st' → Good st'
good-go st st' b ts g e = (subst (Back st b) e (back st b g)).0

pub complete : (s : List ℕ) (n : ℕ) (st : State) (ts : List Token) → Good st → Rest st ts s → run s n st ≡ accepted ts
unfolding run
complete [] n st ts g r = complete-end st n ts r
complete (b ∷ s) n st ts g r =
    let f = forth st ts b s g r in
    let h = complete s (suc n) f.state f.left (good-go st f.state b f.taken g f.moves) f.rests in
    rw (f.moves, run) (ap (after f.taken) h ∙ ap accepted (sym f.same))
