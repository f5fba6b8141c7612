-- A number as a token, by what `numeral` finds. Assumes nothing.
use mathlib.Core.Path.{◌≡◌}
use native.Mathlib.Omega.{arith}
use Rattle.std.proofs.Common.{Some}
use Rattle.lexer.proofs.NumberLaws.{numeral-most}
use Rattle.lexer.proofs.numeric.Goals as goal

pub overflow_add-result : goal.overflow_add-result
overflow_add-result c =
    let h = c.args.here.now in
    let n = c.in_ok-number.number in
    let found : c.numeral.result ≡ Some n = grind arith in
    omega (arith, numeral-most h.text.now h.at c.args.least c.args.most c.numeral.result h.inside (omega arith) c.numeral.ensures n found)
