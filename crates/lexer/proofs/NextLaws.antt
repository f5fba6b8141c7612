-- What the next token means to the automaton: by its first byte (`token-says`), and behind white space (`next-says`). Assumes nothing.
use mathlib.Core.Path.{◌≡◌, refl, ◌∙◌}
use mathlib.Core.Bool.{Bool, false, ◌&&◌}
use mathlib.Core.List.{List, ◌∷◌}
use Prim.Native.Nat.{ℕ, ◌≤◌, ◌<◌}
use native.Mathlib.Omega.{arith}
use lib.Dec.{eqb, leb, ltb}
use lib.ListN.{length, drop, get_or}
use borrow.Author.Tests.{eqb-true, leb-true, ltb-true, ltb-false}
use Rattle.tsparql.proofs.ListLaws.{and_left, and_right}
use Rattle.grammar.specs.Tokens.{is_space}
use Rattle.grammar.specs.Automaton.{Symbol, digit, gap}
use Rattle.grammar.proofs.Basics.{cond_cases}
use Rattle.scanner.specs.Scans.{skip_from}
use Rattle.scanner.proofs.SpaceLaws.{Skipped, skip-says}
use Rattle.scanner.proofs.RunLaws.{end-at}
use Rattle.lexer.specs.NextToken.{token_at, next_token}
use Rattle.std.proofs.Common.{Ok, Err}
use Rattle.lexer.specs.NextToken.{Step}
use Rattle.lexer.proofs.Advances.{Advanced}
use Rattle.lexer.proofs.NumberLaws.{variable-says, negative-says, positive-says}
use Rattle.lexer.proofs.FixedLaws.{fixed-says}

-- by its first byte
token-says :
    (s : List ℕ) (at : ℕ) (a : Bool) (X : Symbol) → at < length s → is_space (get_or s at 0) ≡ false → Advanced s at a X (token_at X a s at)
unfolding token_at
token-says s at a X h space =
    let b = get_or s at 0 in
    let P = Advanced s at a X in
    cond_cases P (eqb b 63) (λ q. variable-says s at a X h (eqb-true b 63 q))
    (λ q. cond_cases P (eqb b 45) (λ m. negative-says s at a X h (eqb-true b 45 m))
    (λ m. cond_cases P (digit b)
    (λ d. positive-says s at a X h (leb-true 48 b (and_left (leb 48 b) (leb b 57) d)) (leb-true b 57 (and_right (leb 48 b) (leb b 57) d)))
    (λ d. fixed-says s at a X h (record { no_space = space; no_question_mark = q; no_minus = m; no_digit = d }))))

-- and behind white space
module _ (s : List ℕ) (at i : ℕ) (a : Bool) (X : Symbol) (k : Skipped s at i) where
  behind-space : (r : Step) → Advanced s i (a && eqb at i) X r → Advanced s at a X r
  behind-space (Ok l) t =
      let g = k.forward in
      let f = t.forward in
      let few = t.few in
      record {
        token = t.token;
        production = t.production;
        word = t.word;
        pushes = t.pushes;
        ends = t.ends;
        forward = omega arith;
        inside = t.inside;
        few = omega arith;
        runs = λ σ. k.runs a (X ∷ σ) ∙ t.runs σ;
      }
  behind-space (Err f) t = λ σ. k.runs a (X ∷ σ) ∙ t σ

pub next-says : (s : List ℕ) (at : ℕ) (a : Bool) (X : Symbol) → at ≤ length s → Advanced s at a X (next_token X a s at)
unfolding next_token
next-says s at a X h =
    let i = skip_from at (drop at s) in
    let k = skip-says s at i h refl in
    cond_cases (Advanced s at a X) (ltb i (length s))
    (λ e. let l = ltb-true i (length s) e in
    behind-space s at i a X k.skipped (token_at X (a && eqb at i) s i) (token-says s i (a && eqb at i) X l (k.stops l)))
    (λ e σ. k.skipped.runs a (X ∷ σ) ∙ end-at s i (gap (a && eqb at i) (X ∷ σ)) (ltb-false i (length s) e))
