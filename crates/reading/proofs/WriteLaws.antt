-- A query's bytes are those to which its group is gathered and filtered (`renders`). Assumes nothing.
use mathlib.Core.Path.{◌≡◌, refl, ap}
use mathlib.Core.List.{List, []}
use Prim.Native.Nat.{ℕ}
use native.Mathlib.Omega.{arith}
use lib.ListN.{length, take, drop, length-map}
use Rattle.grammar.specs.Grammar.{tokens, body_tokens}
use Rattle.grammar.specs.Meaning.{meaning, meaning_bytes}
use Rattle.grammar.proofs.Sizes.{meaning-size}
use Rattle.blocks.specs.Buffers.{Filled}
use Rattle.blocks.specs.Blocks.{Holds}
use Rattle.words.specs.Words.{words, token_word}
use Rattle.groups.specs.Passes.{Filters}
use Rattle.parser.specs.Stages.{Gathers}
use Rattle.reading.specs.Answers.{Renders}

pub renders :
    (t : List ℕ) (out out₁ out₂ : Filled) (next : ℕ) → out.end ≡ 0 → Gathers t 1 out out₁ next → Filters t 1 0 out₁ out₂
    → Renders t out out₂
unfolding meaning_bytes meaning
renders t out out₁ out₂ next none gather filter q e room =
    let on : drop 1 t ≡ words (body_tokens q []) = ap (λ (l : List ℕ). drop 1 l) e in
    let all = length out.bytes in
    let start : Holds out [] all = record { whole = refl; size = none; front = ap (λ (n : ℕ). take n out.bytes) none } in
    let size = meaning-size q in
    let long = ap length e in
    let long₁ = length-map (tokens q) token_word in
    let long₂ = length-map (body_tokens q []) token_word in
    let h = gather all q [] [] on start (omega (arith, ap length on)) in
    filter all q [] [] on refl h.1 (omega arith)
