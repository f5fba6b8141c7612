-- Where the machine stops: up to the place of a fault some text goes on, and with one byte more none. Groups: every state can be finished
-- (`finishes`); the place of a fault (`faults`). Assumes nothing.
use mathlib.Core.Path.{◌≡◌, refl, sym, ◌∙◌, subst}
use mathlib.Core.Bool.{Bool, true}
use mathlib.Core.List.{List, [], ◌∷◌, ◌++◌, Memᴰ}
use mathlib.Core.Option.{some}
use Prim.Native.Nat.{ℕ, suc, ◌+◌, ◌≤◌, ◌<◌}
use native.Mathlib.Omega.{arith}
use lib.ListN.{length, take}
use Rattle.grammar.specs.Tokens.{Token, mark, var, num, is_word_number_or_variable, Written, done, space, token}
use Rattle.grammar.specs.Tokens as T
use Rattle.grammar.specs.Automaton.{Symbol, s_body, s_after_triple, s_after_element, s_after_group, s_slot, s_var, s_bound}
use Rattle.grammar.specs.Automaton.{s_primary, s_negatable, s_relation, s_tail, s_lBrace, s_lParen, s_rParen, s_comma, s_aS, s_tRUST}
use Rattle.grammar.specs.Automaton.{marks, vars, token_of, State, gap, in_mark, first, in_number, Move, stop, go, step}
use Rattle.grammar.specs.Automaton.{Outcome, accepted, fault, after, finish, run}
use Rattle.grammar.proofs.Accepts.{by_mark, by_var, by_plus, Accepts, over, then, at0, at1, at2}
use Rattle.grammar.proofs.Numerals.{Numeral, numeral}
use Rattle.grammar.proofs.Numerals as N
use Rattle.grammar.proofs.States.{Rest, Good, ended, spelled}
use Rattle.grammar.proofs.Sound.{Back, back, follow}
use Rattle.grammar.proofs.Complete.{forth}

-- ---- every state can be finished

-- tokens that may come for a stack, in bytes that may follow anything
record Finish (σ : List Symbol) : Type 0 where
  tokens : List Token
  bytes : List ℕ
  accepts : Accepts σ tokens
  written : (a : Bool) → Written a tokens bytes

-- a fixed token, after a space
finish-mark : {X : Symbol} {α σ : List Symbol} (w : List ℕ) → Memᴰ (w, α) (marks X) → Finish (α ++ σ) → Finish (X ∷ σ)
finish-mark {α = α} w m f =
    record {
      tokens = mark w ∷ f.tokens;
      bytes = 32 ∷ (w ++ f.bytes);
      accepts = then (by_mark w α m) f.accepts;
      written = λ a. space 32 refl (token (mark w) f.bytes refl refl (f.written (is_word_number_or_variable (mark w))));
    }

numeral-one : Numeral 1 (49 ∷ [])
numeral-one = numeral 49 (record { least = omega arith; most = omega arith }) N.none

finish-var : {X : Symbol} {σ : List Symbol} → vars X ≡ some [] → Finish σ → Finish (X ∷ σ)
finish-var e f =
    record {
      tokens = var 1 ∷ f.tokens;
      bytes = 32 ∷ 63 ∷ 49 ∷ f.bytes;
      accepts = then (by_var 1 (omega arith) e) f.accepts;
      written = λ a. space 32 refl (spelled (var 1) (63 ∷ 49 ∷ []) f.bytes refl (N.of_var numeral-one) refl (f.written true));
    }

finish-bound : {σ : List Symbol} → Finish σ → Finish (s_bound ∷ σ)
finish-bound f =
    record {
      tokens = num 1 ∷ f.tokens;
      bytes = 32 ∷ 49 ∷ f.bytes;
      accepts = then (by_plus 1 (omega arith) refl) f.accepts;
      written = λ a. space 32 refl (spelled (num 1) (49 ∷ []) f.bytes refl (N.of_num numeral-one) refl (f.written true));
    }

-- BOUND(?1)
finish-condition : {X : Symbol} {σ : List Symbol} → Memᴰ (T.BOUND, s_lParen ∷ s_var ∷ s_rParen ∷ []) (marks X) → Finish σ → Finish (X ∷ σ)
finish-condition m f = finish-mark T.BOUND m (finish-mark T.LPAREN at0 (finish-var refl (finish-mark T.RPAREN at0 f)))

finish-symbol : (X : Symbol) (σ : List Symbol) → Finish σ → Finish (X ∷ σ)
finish-symbol s_body σ f = finish-mark T.RBRACE at0 f
finish-symbol s_after_triple σ f = finish-mark T.RBRACE at1 f
finish-symbol s_after_element σ f = finish-mark T.RBRACE at1 f
finish-symbol s_after_group σ f = finish-mark T.RBRACE at2 f
finish-symbol s_slot σ f = finish-var refl f
finish-symbol s_var σ f = finish-var refl f
finish-symbol s_bound σ f = finish-bound f
finish-symbol s_primary σ f = finish-condition at0 f
finish-symbol s_negatable σ f = finish-condition at0 f
finish-symbol s_relation σ f = finish-mark T.LESS at1 (finish-var refl f)
finish-symbol s_tail σ f = finish-mark T.RPAREN at0 f
finish-symbol s_lBrace σ f = finish-mark T.LBRACE at0 f
finish-symbol s_lParen σ f = finish-mark T.LPAREN at0 f
finish-symbol s_rParen σ f = finish-mark T.RPAREN at0 f
finish-symbol s_comma σ f = finish-mark T.COMMA at0 f
finish-symbol s_aS σ f = finish-mark T.AS at0 f
finish-symbol s_tRUST σ f = finish-mark T.TRUST at0 f

finish-stack : (σ : List Symbol) → Finish σ
finish-stack [] = record { tokens = []; bytes = []; accepts = over; written = λ a. done }
finish-stack (X ∷ σ) = finish-symbol X σ (finish-stack σ)

finishes : (st : State) → Good st → (ts : List Token) × (s : List ℕ) × Rest st ts s
finishes (gap a σ) g = let f = finish-stack σ in (f.tokens, f.bytes, (f.accepts, f.written a))
finishes (in_mark c w t σ) g =
    let f = finish-stack σ in (
      t ∷ f.tokens,
      (c ∷ w) ++ f.bytes,
      record {
        tail = f.bytes;
        tokens = f.tokens;
        bytes = refl;
        same = refl;
        accepts = f.accepts;
        written = f.written (is_word_number_or_variable t);
      },
    )
finishes (first l u k σ) g =
    let f = finish-stack σ in (
      token_of k 1 ∷ f.tokens,
      (49 ∷ []) ++ f.bytes,
      record {
        value = 1;
        digits = 49 ∷ [];
        tail = f.bytes;
        tokens = f.tokens;
        bytes = refl;
        same = refl;
        reads = numeral-one;
        least = g.0;
        most = let h : 9 ≤ u = g.1 in omega arith;
        accepts = f.accepts;
        written = f.written true;
      },
    )
finishes (in_number u v k σ) g =
    let f = finish-stack σ in (token_of k v ∷ f.tokens, f.bytes, ended u v k σ f.tokens f.bytes g f.accepts (f.written true))

-- ---- the place of a fault

-- from the state st, at place n, the machine stops in s at place m: count bytes further on
pub record Stops (st : State) (s : List ℕ) (n m : ℕ) : Type 0 where
  pub count : ℕ
  pub place : m ≡ n + count
  pub inside : count ≤ length s
  pub goes_on : (ts : List Token) × (r : List ℕ) × Rest st ts (take count s ++ r)
  pub no_further : count < length s → (ts : List Token) (r : List ℕ) → Rest st ts (take (suc count) s ++ r) → ⊥

abbrev pub Fault : State → List ℕ → ℕ → Outcome → Type 0
Fault st s n (accepted ts) = Unit {0}
Fault st s n (fault m) = Stops st s n m

-- the end of the text
stops_end : (st : State) (n : ℕ) → Good st → Stops st [] n n
stops_end st n g =
    record { count = 0; place = omega arith; inside = omega arith; goes_on = finishes st g; no_further = λ h. absurd (omega arith) }

fault-end : (st : State) (n : ℕ) → Good st → Fault st [] n (finish n st)
fault-end (gap a []) n g = tt
fault-end (gap a (X ∷ σ)) n g = stops_end (gap a (X ∷ σ)) n g
fault-end (in_mark c w t σ) n g = stops_end (in_mark c w t σ) n g
fault-end (first l u k σ) n g = stops_end (first l u k σ) n g
fault-end (in_number u v k []) n g = tt
fault-end (in_number u v k (X ∷ σ)) n g = stops_end (in_number u v k (X ∷ σ)) n g

stop≢go : {ts : List Token} {st : State} → stop ≡ go ts st → ⊥
stop≢go e = let z : ◌≡◌ {A = ℕ} 0 1 = cc in omega arith

same-state : {ts us : List Token} {st st' : State} → go ts st ≡ go us st' → st ≡ st'
same-state e = cc

fault-after : (st st' : State) (b : ℕ) (s : List ℕ) (n : ℕ) (ts : List Token) → Good st → step st b ≡ go ts st'
    → ((us : List Token) (r : List ℕ) → Rest st' us r → Rest st (ts ++ us) (b ∷ r))
    → (o : Outcome) → Fault st' s (suc n) o → Fault st (b ∷ s) n (after ts o)
fault-after st st' b s n ts g e f (accepted us) h = tt
fault-after st st' b s n ts g e f (fault m) h =
    let p = h.place in
    let i = h.inside in
    record {
      count = suc h.count;
      place = omega arith;
      inside = omega arith;
      goes_on = (ts ++ h.goes_on.0, h.goes_on.1, f h.goes_on.0 (take h.count s ++ h.goes_on.1) h.goes_on.2);
      no_further = λ l us r x.
          let y = forth st us b (take (suc h.count) s ++ r) g x in
          h.no_further (omega arith) y.left r
          (subst (λ (z : State). Rest z y.left (take (suc h.count) s ++ r)) (same-state (sym y.moves ∙ e)) y.rests);
    }

fault-move : (st : State) (b : ℕ) (s : List ℕ) (n : ℕ) → Good st → (m : Move) → step st b ≡ m → Back st b m
    → ((st' : State) → Good st' → Fault st' s (suc n) (run s (suc n) st')) → Fault st (b ∷ s) n (follow s n m)
fault-move st b s n g stop e f ih =
    record {
      count = 0;
      place = omega arith;
      inside = omega arith;
      goes_on = finishes st g;
      no_further = λ l us r x. let y = forth st us b r g x in stop≢go (sym e ∙ y.moves);
    }
fault-move st b s n g (go ts st') e f ih = fault-after st st' b s n ts g e f.1 (run s (suc n) st') (ih st' f.0)

pub faults : (s : List ℕ) (n : ℕ) (st : State) → Good st → Fault st s n (run s n st)
unfolding run
faults [] n st g = fault-end st n g
faults (b ∷ s) n st g = fault-move st b s n g (step st b) refl (back st b g) (λ st' h. faults s (suc n) st' h)
