-- A fixed token, whole, or the place where it differs. Assumes nothing.
use native.Mathlib.Omega.{arith}
use Rattle.lexer.proofs.FixedLaws.{whole-inside, part-inside}
use Rattle.lexer.proofs.spelled.Goals as goal

pub overflow_add-result : goal.overflow_add-result
overflow_add-result c =
    let h = c.args.here.now in
    omega (arith, whole-inside h.text.now h.at c.rest.result.now c.fixed_token.result h.inside c.rest.ensures c.fixed_token.ensures _ c.in-Ok.is)

pub behind-requires : goal.behind-requires
behind-requires c =
    let h = c.args.here.now in
    omega (arith, part-inside h.text.now h.at c.rest.result.now c.fixed_token.result h.inside c.rest.ensures c.fixed_token.ensures _ c.in-Err.is)
