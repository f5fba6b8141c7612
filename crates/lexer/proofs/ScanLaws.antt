-- The loop of `scan`: its invariant is `Scanning`, the tokens so far, the stack, and what the automaton gives from here on. A turn reads
-- the next token or a fault; where the stack is empty the text has ended, or has a surplus. Assumes nothing.
use mathlib.Core.Path.{◌≡◌, refl, sym, ap, ◌∙◌, subst}
use mathlib.Core.Bool.{Bool, false, ◌&&◌}
use mathlib.Core.List.{List, [], ◌∷◌, ◌++◌, map, append-nil, map-append}
use Prim.Native.Nat.{ℕ, ◌+◌, ◌*◌, ◌-◌, ◌≤◌, ◌<◌}
use native.Mathlib.Omega.{arith}
use native.Mathlib.Numerals.{add-one}
use lib.Dec.{eqb}
use lib.ListN.{length, take, drop, set, get_or, length-set, length-append}
use lib.Seq.{take-suc-set}
use Rattle.grammar.specs.Tokens.{Token, is_word_number_or_variable}
use Rattle.grammar.specs.Automaton.{Symbol, s_lBrace, s_body, gap, Outcome, accepted, fault, after, run, read, onto}
use Rattle.words.specs.Words.{token_word}
use Rattle.scanner.specs.Scans.{skip_from}
use Rattle.scanner.proofs.SpaceLaws.{SkippedAll, skip-says}
use Rattle.scanner.proofs.RunLaws.{after_nothing, after-after, stop-at, end-at}
use Rattle.lexer.specs.Symbols.{digits, Gives}
use Rattle.lexer.specs.Stacks.{Stacked}
use Rattle.lexer.specs.NextToken.{next_token}
use Rattle.lexer.specs.Steps.{Pushes, Scans}
use Rattle.lexer.proofs.Advances.{Took, Advanced}
use Rattle.lexer.proofs.NextLaws.{next-says}
use Rattle.std.proofs.Common.{Ok, Err}
use Rattle.refusals.specs.declared.Fault.{Fault}
use Rattle.lexer.specs.NextToken.{Step}
use Rattle.lexer.specs.declared.Lexeme.{Lexeme}
use Rattle.lexer.proofs.StackLaws.{Top, stacked-top, stacked-none}

pub record Scanning (s words₀ stack₀ words stack : List ℕ) (depth at : ℕ) (tight : Bool) (count : ℕ) : Type 0 where
  pub room_words : length s ≤ length words
  pub room_stack : 2 + 2 * length s ≤ length stack
  pub same_words : length words ≡ length words₀
  pub same_stack : length stack ≡ length stack₀
  pub inside : at ≤ length s
  pub few : count ≤ at
  pub low : depth ≤ 2 + 2 * at
  pub done : List Token
  pub symbols : List Symbol
  pub stacked : Stacked stack depth symbols
  pub written : take count words ≡ map token_word done
  pub size : count ≡ length done
  pub so : read s ≡ after done (run (drop at s) at (gap tight symbols))

pub scanning-first :
    (s words stack stack' : List ℕ) (d : ℕ) → length s ≤ length words → 2 + 2 * length s ≤ length stack → length stack' ≡ length stack
    → Pushes stack stack' 0 385 d → Scanning s words stack' words stack' d 0 false 0
unfolding read digits
scanning-first s words stack stack' d w h e p =
    let empty : Stacked stack 0 [] = record { size = refl; front = refl } in
    let two : Stacked stack' d (s_lBrace ∷ s_body ∷ []) = p (s_lBrace ∷ s_body ∷ []) [] refl empty (omega arith) in
    record {
      room_words = w;
      room_stack = omega arith;
      same_words = refl;
      same_stack = refl;
      inside = omega arith;
      few = omega arith;
      low = omega (arith, two.size);
      done = [];
      symbols = s_lBrace ∷ s_body ∷ [];
      stacked = two;
      written = refl;
      size = refl;
      so = sym (after_nothing (run s 0 (gap false (s_lBrace ∷ s_body ∷ []))));
    }

module _ {s words₀ stack₀ words stack : List ℕ} {depth at : ℕ} {tight : Bool} {count : ℕ}
    (c : Scanning s words₀ stack₀ words stack depth at tight count) where
  -- what the automaton gives of the text, from what it gives from here on
  onward : (σ : List Symbol) (o : Outcome) → c.symbols ≡ σ → run (drop at s) at (gap tight σ) ≡ o → read s ≡ after c.done o
  onward σ o e r = c.so ∙ ap (λ (τ : List Symbol). after c.done (run (drop at s) at (gap tight τ))) e ∙ ap (after c.done) r

  -- ---- a turn

  module _ (g : 0 < depth) (r : Step) (a : Gives (get_or stack (depth - 1) 0) (λ X. next_token X tight s at) r) where
    top : Top stack depth c.symbols
    top = stacked-top stack depth c.symbols g (omega (arith, c.low, c.inside, c.room_stack)) c.stacked

    advanced : (answer : Step) → r ≡ answer → Advanced s at tight top.symbol answer
    advanced answer q =
        let X = top.symbol in
        subst (Advanced s at tight X) (sym (a X top.byte) ∙ q) (next-says s at tight X c.inside)

    -- it goes forward
    pub scanning-forward : (l : Lexeme) → r ≡ Ok l → (at < l.next) × (l.next ≤ length s)
    scanning-forward l q = let took : Took s at tight top.symbol l = advanced (Ok l) q in (took.forward, took.inside)

    -- a token, and its production pushed
    pub scanning-token :
        (l : Lexeme) (stack' : List ℕ) (depth' : ℕ) → r ≡ Ok l → length stack' ≡ length stack
        → Pushes stack stack' (depth - 1) l.production depth'
        → Scanning s words₀ stack₀ (set words count l.word) stack' depth' l.next l.tight (count + 1)
    scanning-token l stack' depth' q e p =
        let low = c.low in
        let inside = c.inside in
        let room = c.room_stack in
        let wide = c.room_words in
        let few = c.few in
        let σ = top.below in
        let took : Took s at tight top.symbol l = advanced (Ok l) q in
        let α = took.production in
        let token = took.token in
        let forward = took.forward in
        let within = took.inside in
        let short = took.few in
        let behind : Bool → Outcome = λ b. run (drop l.next s) l.next (gap b (α ++ σ)) in
        let pushed = p α σ took.pushes top.stacked (omega arith) in
        record {
          room_words = omega (arith, length-set words count l.word);
          room_stack = omega arith;
          same_words = length-set words count l.word ∙ c.same_words;
          same_stack = e ∙ c.same_stack;
          inside = within;
          few = omega arith;
          low = omega (arith, pushed.size, length-append α σ, top.stacked.size);
          done = c.done ++ (token ∷ []);
          symbols = α ++ σ;
          stacked = pushed;
          written =
              ap (λ (k : ℕ). take k (set words count l.word)) (add-one count) ∙ take-suc-set words count l.word (omega arith)
              ∙ ap (λ (x : List ℕ). x ++ (l.word ∷ [])) c.written ∙ ap (λ (x : ℕ). map token_word c.done ++ (x ∷ [])) took.word
              ∙ sym (map-append token_word c.done (token ∷ []));
          size = omega (arith, c.size, length-append c.done (token ∷ []));
          so =
              onward (top.symbol ∷ σ) _ top.all (took.runs σ)
              ∙ after-after c.done (token ∷ []) (behind (is_word_number_or_variable token))
              ∙ ap (λ (b : Bool). after (c.done ++ (token ∷ [])) (behind b)) (sym took.ends);
        }

    -- a fault of the step is one of the text
    pub scanning-fault : (f : Fault) → r ≡ Err f → read s ≡ fault f.0
    scanning-fault f q =
        let stops : (σ : List Symbol) → run (drop at s) at (gap tight (top.symbol ∷ σ)) ≡ fault f.0 = advanced (Err f) q in
        onward (top.symbol ∷ top.below) (fault f.0) top.all (stops top.below)

  -- ---- behind the last token

  module _ (r : ℕ) (z : depth ≡ 0) (q : r ≡ skip_from at (drop at s)) where
    skipped : SkippedAll s at r
    skipped = skip-says s at r c.inside q

    ends : (o : Outcome) → run (drop r s) r (gap (tight && eqb at r) []) ≡ o → read s ≡ after c.done o
    ends o e = onward [] o (stacked-none stack c.symbols (rw z at c.stacked)) (skipped.skipped.runs tight [] ∙ e)

    pub scanning-all : length s ≤ r → Scans s words (Ok count)
    scanning-all h =
        let e : read s ≡ accepted c.done =
        ends (accepted []) (end-at s r (gap (tight && eqb at r) []) h) ∙ ap accepted (append-nil c.done) in
        (c.done, e, c.written, c.size)

    pub scanning-surplus : r < length s → read s ≡ fault r
    unfolding onto
    scanning-surplus h = ends (fault r) (stop-at s r (gap (tight && eqb at r) []) h (rw (skipped.stops h)))
