-- A stack of symbols: one symbol more (`stacked-push`), its top (`stacked-top`), and the loop of `push`, whose invariant is what is left
-- of the production and the stack so far (`Pushing`, `pushing-..`). Assumes nothing.
use mathlib.Core.Path.{◌≡◌, refl, sym, ap, ◌∙◌, subst}
use mathlib.Core.List.{List, [], ◌∷◌, ◌++◌, map, reverse, reverse_aux, reverse_aux-eq, reverse-cons, reverse-reverse}
use Prim.Native.Nat.{ℕ, ◌+◌, ◌-◌, ◌/◌, ◌%◌, ◌≤◌, ◌<◌}
use native.Mathlib.Omega.{arith}
use native.Mathlib.Numerals.{add-one}
use lib.ListN.{length, take, set, get_or, length-set, length-map, length-reverse}
use lib.Seq.{take-suc-set, take-take, take_at, get_or_at, get_or-take}
use Rattle.grammar.specs.Automaton.{Symbol}
use Rattle.lexer.specs.Symbols.{code, digits, packed}
use Rattle.lexer.specs.Stacks.{Stacked}
use Rattle.lexer.specs.Steps.{Pushes}
use Rattle.lexer.proofs.SymbolLaws.{code-digit}

-- ---- one symbol

stacked-push :
    (stack : List ℕ) (d : ℕ) (σ : List Symbol) (X : Symbol) → d < length stack → Stacked stack d σ
    → Stacked (set stack d (code X)) (d + 1) (X ∷ σ)
stacked-push stack d σ X h s =
    record {
      size = omega (arith, s.size);
      front =
          ap (λ (n : ℕ). take n (set stack d (code X))) (add-one d) ∙ take-suc-set stack d (code X) h
          ∙ ap (λ (l : List ℕ). l ++ (code X ∷ [])) s.front ∙ sym (reverse-cons (code X) (map code σ));
    }

pub record Top (stack : List ℕ) (depth : ℕ) (σ : List Symbol) : Type 0 where
  pub symbol : Symbol
  pub below : List Symbol
  pub all : σ ≡ symbol ∷ below
  pub byte : get_or stack (depth - 1) 0 ≡ code symbol
  pub stacked : Stacked stack (depth - 1) below

pub stacked-top :
    (stack : List ℕ) (depth : ℕ) (σ : List Symbol) → 0 < depth → depth ≤ length stack → Stacked stack depth σ → Top stack depth σ
stacked-top stack depth [] h r s = absurd (omega (arith, s.size))
stacked-top stack depth (X ∷ σ) h r s =
    let under = reverse (map code σ) in
    let n : length under ≡ depth - 1 = omega (arith, s.size, length-reverse (map code σ), length-map σ code) in
    let f : take depth stack ≡ under ++ (code X ∷ []) = s.front ∙ reverse-cons (code X) (map code σ) in
    record {
      symbol = X;
      below = σ;
      all = refl;
      byte =
          sym (get_or-take depth stack (depth - 1) 0 (omega arith)) ∙ ap (λ (l : List ℕ). get_or l (depth - 1) 0) f
          ∙ get_or_at under (code X) [] 0 (depth - 1) n;
      stacked =
          record {
            size = omega (arith, s.size);
            front =
                sym (take-take (depth - 1) depth stack (omega arith)) ∙ ap (λ (l : List ℕ). take (depth - 1) l) f
                ∙ take_at under (code X ∷ []) (depth - 1) n;
          };
    }

pub stacked-none : (stack : List ℕ) (σ : List Symbol) → Stacked stack 0 σ → σ ≡ []
stacked-none stack [] s = refl
stacked-none stack (X ∷ σ) s = absurd (omega (arith, s.size))

-- ---- a production

-- its lowest digit
record Lowest (p : ℕ) (left : List Symbol) : Type 0 where
  symbol : Symbol
  others : List Symbol
  is : left ≡ symbol ∷ others
  low : p % 32 ≡ code symbol
  high : p / 32 ≡ digits others

lowest : (p : ℕ) (left : List Symbol) → 0 < p → p ≡ digits left → Lowest p left
unfolding digits
lowest p [] g e = absurd (omega arith)
lowest p (X ∷ left) g e =
    let k = code-digit X in
    record { symbol = X; others = left; is = refl; low = omega arith; high = omega arith }

no-digits : (left : List Symbol) → 0 ≡ digits left → left ≡ []
unfolding digits
no-digits [] e = refl
no-digits (X ∷ left) e = absurd (omega (arith, (code-digit X).0))

-- what is left of the production, last symbol first, and the stack so far
pub record Left (stack : List ℕ) (d p : ℕ) (whole : List Symbol) : Type 0 where
  pub left : List Symbol
  pub so : List Symbol
  pub number : p ≡ digits left
  pub stacked : Stacked stack d so
  pub all : reverse_aux left so ≡ whole
  pub room : d + length left ≤ length stack

pub record Pushing (stack₀ : List ℕ) (depth production : ℕ) (stack : List ℕ) (d p : ℕ) : Type 0 where
  pub same : length stack ≡ length stack₀
  pub left :
      (α σ : List Symbol) → production ≡ packed α → Stacked stack₀ depth σ → depth + length α ≤ length stack₀ → Left stack d p (α ++ σ)

pub pushing-first : (stack : List ℕ) (depth production : ℕ) → Pushing stack depth production stack depth production
pushing-first stack depth production =
    record {
      same = refl;
      left = λ α σ e s h.
          record {
            left = reverse α;
            so = σ;
            number = e;
            stacked = s;
            all = reverse_aux-eq (reverse α) σ ∙ ap (λ (l : List Symbol). l ++ σ) (reverse-reverse α);
            room = omega (arith, length-reverse α);
          };
    }

step_left :
    (stack : List ℕ) (d p : ℕ) (whole : List Symbol) → 0 < p → Left stack d p whole → Left (set stack d (p % 32)) (d + 1) (p / 32) whole
step_left stack d p whole g l =
    let w = lowest p l.left g l.number in
    let more = ap length w.is in
    record {
      left = w.others;
      so = w.symbol ∷ l.so;
      number = w.high;
      stacked = rw w.low (stacked-push stack d l.so w.symbol (omega (arith, l.room)) l.stacked);
      all = rw w.is at l.all;
      room = omega (arith, length-set stack d (p % 32), l.room);
    }

module _ {stack₀ stack : List ℕ} {depth production d p : ℕ} (w : Pushing stack₀ depth production stack d p) where
  pub pushing-one : 0 < p → Pushing stack₀ depth production (set stack d (p % 32)) (d + 1) (p / 32)
  pushing-one g =
      record {
        same = length-set stack d (p % 32) ∙ w.same;
        left = λ α σ e s h. step_left stack d p (α ++ σ) g (w.left α σ e s h);
      }

  pub pushing-all : p ≡ 0 → Pushes stack₀ stack depth production d
  pushing-all z α σ e s h =
      let l = w.left α σ e s h in
      let none = no-digits l.left (sym z ∙ l.number) in
      subst (Stacked stack d) (rw none at l.all) l.stacked
