-- The fixed tokens by their first byte, and how much of one a text begins with. Assumes nothing.
use Rattle.std.specs.Prelude.{cond, List, [], ◌∷◌, ℕ, eqb, ltb, length, Result, Ok, Err}
use Rattle.grammar.specs.Tokens as T
use Rattle.scanner.specs.Scans.{common}
use Rattle.refusals.specs.declared.Fault.{Fault}

-- the fixed token with this first byte; a byte that begins no other is a token of its own
abbrev pub fixed_token : ℕ → List ℕ
fixed_token b =
    cond (eqb b 38) T.AND
    (cond (eqb b 124) T.OR
    (cond (eqb b 79) T.OPTIONAL
    (cond (eqb b 85) T.UNION
    (cond (eqb b 70) T.FILTER
    (cond (eqb b 69) T.ENSURE (cond (eqb b 66) T.BOUND (cond (eqb b 84) T.TRUST (cond (eqb b 65) T.AS (b ∷ [])))))))))

-- the token's length where the text has it whole, else the place of the first byte that differs
abbrev pub compared : List ℕ → List ℕ → Result ℕ Fault
compared token text = cond (ltb (common token text) (length token)) (Err (record { 0 = common token text })) (Ok (common token text))
