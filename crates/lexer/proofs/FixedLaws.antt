-- Fixed tokens: how much of one stands at a place (`word-says`), and what the automaton makes of it where the symbol on top allows one with
-- that first byte (`fixed-says`). Assumes nothing.
use mathlib.Core.Path.{◌≡◌, refl, sym, ap, ◌∙◌, subst⁻¹}
use mathlib.Core.Bool.{Bool, false, true≢false, ◌&&◌}
use mathlib.Core.List.{List, ◌∷◌, Memᴰ}
use mathlib.Core.Option.{Option}
use Prim.Native.Nat.{ℕ, suc, ◌+◌, ◌≤◌, ◌<◌}
use native.Mathlib.Omega.{arith}
use native.Mathlib.Numerals.{add-one}
use lib.Dec.{eqb}
use lib.ListN.{length, drop, get_or, length-drop}
use lib.Seq.{drop-cons, get_or-drop}
use borrow.Author.Tests.{eq-eqb, ne_eqb}
use Rattle.grammar.specs.Tokens.{mark, is_capital}
use Rattle.grammar.specs.Automaton.{Symbol, Entry, marks, find, digit, gap, fault, run}
use Rattle.grammar.proofs.Basics.{cond_cases}
use Rattle.grammar.proofs.TableFacts.{fact_of, find-mem}
use Rattle.scanner.specs.Scans.{common}
use Rattle.scanner.specs.Fixed.{fixed_token, compared}
use Rattle.scanner.proofs.RunLaws.{stop-at}
use Rattle.scanner.proofs.CompareLaws.{common-within, Says, compared-says}
use Rattle.scanner.proofs.FixedLaws.{literal-whole, literal-part}
use Rattle.lexer.specs.Symbols.{packed}
use Rattle.lexer.specs.Rules.{production_of, allows, follow_of}
use Rattle.lexer.specs.NextToken.{word_token, word_at, when_allowed, word_apart, fixed_at}
use Rattle.std.proofs.Common.{Result, Ok, Err}
use Rattle.refusals.specs.declared.Fault.{Fault}
use Rattle.lexer.specs.NextToken.{Step}
use Rattle.lexer.specs.declared.Lexeme.{Lexeme}
use Rattle.lexer.proofs.Advances.{Took, Advanced}
use Rattle.lexer.proofs.SymbolLaws.{entry-word, entry-few}
use Rattle.lexer.proofs.FirstByte.{Other, mark-none, mark-tight}

-- ---- how much of one stands at a place

-- l is the fixed token with the first byte at `at`, which stands there whole
record Spelled (s : List ℕ) (at production : ℕ) (l : Lexeme) : Type 0 where
  pub whole : common (fixed_token (get_or s at 0)) (drop at s) ≡ length (fixed_token (get_or s at 0))
  pub next : l.next ≡ at + length (fixed_token (get_or s at 0))
  pub inside : l.next ≤ length s
  pub word : l.word ≡ get_or s at 0
  pub ends : l.tight ≡ is_capital (get_or s at 0)
  pub pushes : l.production ≡ production

-- only a part of it stands there, up to `reached`
record Misspelled (s : List ℕ) (at reached : ℕ) : Type 0 where
  pub part : common (fixed_token (get_or s at 0)) (drop at s) < length (fixed_token (get_or s at 0))
  pub place : reached ≡ at + common (fixed_token (get_or s at 0)) (drop at s)

-- by the answer
abbrev Spelling : List ℕ → ℕ → ℕ → Step → Type 0
Spelling s at production (Ok l) = Spelled s at production l
Spelling s at production (Err f) = Misspelled s at f.0

-- the text from a place on begins with the byte there
pub first_there : (s : List ℕ) (at : ℕ) → get_or (drop at s) 0 0 ≡ get_or s at 0
first_there s at = get_or-drop at s 0 0 ∙ ap (λ (n : ℕ). get_or s n 0) (omega arith)

module _ (s : List ℕ) (at : ℕ) (rest : List ℕ) (k : Result ℕ Fault) (h : at ≤ length s) (r : rest ≡ drop at s)
    (e : k ≡ compared (fixed_token (get_or rest 0 0)) rest) where
  inside : (n : ℕ) → n ≡ common (fixed_token (get_or rest 0 0)) rest → at + n ≤ length s
  inside n q = omega (arith, (common-within (fixed_token (get_or rest 0 0)) rest).1, ap length r, length-drop at s)

  pub whole-inside : (n : ℕ) → k ≡ Ok n → at + n ≤ length s
  whole-inside n q = inside n (compared-says (fixed_token (get_or rest 0 0)) rest k (Ok n) e q).0

  pub part-inside : (f : Fault) → k ≡ Err f → at + f.0 ≤ length s
  part-inside f q = inside f.0 (compared-says (fixed_token (get_or rest 0 0)) rest k (Err f) e q).0

word-says : (s : List ℕ) (at p : ℕ) → at < length s → Spelling s at p (word_at p s at)
word-says s at p h = go (compared token (drop at s)) (compared-says token (drop at s) _ _ refl refl)
  where
    token : List ℕ
    token = fixed_token (get_or s at 0)

    go : (k : Result ℕ Fault) → Says (fixed_token (get_or s at 0)) (drop at s) k → Spelling s at p (word_token (get_or s at 0) p at k)
    go (Ok n) r =
        record {
          whole = r.1;
          next = omega (arith, r.0, r.1);
          inside = omega (arith, r.0, (common-within (fixed_token (get_or s at 0)) (drop at s)).1, length-drop at s);
          word = refl;
          ends = refl;
          pushes = refl;
        }
    go (Err f) r = record { part = r.1; place = omega (arith, r.0) }

-- ---- a fixed token by the entry of a symbol's table

module _ (s : List ℕ) (at : ℕ) (a : Bool) (X : Symbol) (h : at < length s) (entry : Entry) (among : Memᴰ entry (marks X))
    (first : get_or s at 0 ≡ get_or entry.0 0 0) (c : (a && is_capital (get_or s at 0)) ≡ false) where
  -- its bytes, and those behind the first one
  abbrev word : List ℕ
  word = entry.0

  abbrev later : List ℕ
  later = drop 1 word

  loose : (a && is_capital (get_or word 0 0)) ≡ false
  loose = rw first at c

  begins : word ≡ get_or s at 0 ∷ later
  begins = rw first (fact_of X among).begins

  token : fixed_token (get_or s at 0) ≡ word
  token = rw first (sym (entry-word X among))

  size : length word ≡ suc (length later)
  size = ap length begins

  shares : common word (drop at s) ≡ suc (common later (drop (at + 1) s))
  shares =
      ap (λ (l : List ℕ). common l (drop at s)) begins ∙ ap (common (get_or s at 0 ∷ later)) (drop-cons s at 0 h)
      ∙ rw (eq-eqb (get_or s at 0) (get_or s at 0) refl) (ap (λ (n : ℕ). suc (common later (drop n s))) (sym (add-one at)))

  took-fixed : (x : Lexeme) → Spelled s at (packed entry.1) x → Took s at a X x
  took-fixed x t =
      let whole : common word (drop at s) ≡ length word = rw token at t.whole in
      let next : x.next ≡ at + suc (length later) = omega (arith, t.next, ap length token, size) in
      let all : common later (drop (at + 1) s) ≡ length later = omega (arith, shares, whole, size) in
      record {
        token = mark word;
        production = entry.1;
        word = t.word ∙ first;
        pushes = t.pushes;
        ends = t.ends ∙ ap is_capital first;
        forward = omega (arith, next);
        inside = t.inside;
        few = omega (arith, next, size, entry-few X among);
        runs = λ σ. literal-whole X entry among a σ s at h first loose x.next next all;
      }

  fault-fixed : (q : ℕ) → Misspelled s at q → (σ : List Symbol) → run (drop at s) at (gap a (X ∷ σ)) ≡ fault q
  fault-fixed q t σ =
      let part : common word (drop at s) < length word = rw token at t.part in
      let place : q ≡ at + common word (drop at s) = rw token at t.place in
      literal-part X entry among a σ s at h first loose (omega (arith, shares, part, size))
      ∙ ap fault (omega (arith, place, shares))

  fixed-spelled : (r : Step) → Spelling s at (packed entry.1) r → Advanced s at a X r
  fixed-spelled (Ok x) t = took-fixed x t
  fixed-spelled (Err f) t = fault-fixed f.0 t

-- ---- by the table of the symbol

not-zero : (b : ℕ) → digit b ≡ false → eqb b 48 ≡ false
not-zero b d = ne_eqb b 48 (λ e. true≢false (rw e at d))

-- what a symbol allows there is what its fixed tokens say
allows-mark : (X : Symbol) (b : ℕ) → Other b → allows X b ≡ production_of (find b (marks X))
allows-mark X b o = rw (o.no_question_mark, not-zero b o.no_digit)

module _ (s : List ℕ) (at : ℕ) (a : Bool) (X : Symbol) (h : at < length s) (o : Other (get_or s at 0)) where
  abbrev byte : ℕ
  byte = get_or s at 0

  -- for a production, where there is one
  abbrev Apart : Option (List Symbol) → Type 0
  Apart o = Advanced s at a X (when_allowed at (word_apart a s at) (follow_of o))

  listed : Apart (production_of (find byte (marks X)))
  listed =
      find-mem byte (marks X) (λ e. find byte (marks X) ≡ e → Apart (production_of e))
      (λ e σ. stop-at s at (gap a (X ∷ σ)) h (mark-none a X σ byte o e))
      (λ entry m f e. cond_cases (Advanced s at a X) (a && is_capital byte)
      (λ c σ. stop-at s at (gap a (X ∷ σ)) h (mark-tight a X σ byte o entry e (rw f at c)))
      (λ c. fixed-spelled s at a X h entry m f c (word_at (packed entry.1) s at) (word-says s at (packed entry.1) h))) refl

  pub fixed-says : Advanced s at a X (fixed_at X a s at)
  fixed-says = subst⁻¹ Apart (allows-mark X byte o) listed
