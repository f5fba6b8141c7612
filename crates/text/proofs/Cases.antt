-- The text of a row's cells, by computation, worked out by hand: variables rise. Assumes nothing.
use mathlib.Core.Path.{◌≡◌, refl}
use mathlib.Core.List.{◌∷◌}
use lib.ListN.{replicate}
use Rattle.tsparql.specs.Values.{known, free, term, trusted}
use Rattle.tsparql.specs.Strikes.{ascii, digits, decimal}
use Rattle.text.specs.Writing.{cells_text}

-- ?0 is the term 1, ?2 the trust 900
pub cells-case : cells_text (record { cells = term 1 ∷ free ∷ trusted (known 1900) ∷ replicate 13 free; trust = known 2000 })
    ≡ ascii " ?0=1 ?2=t900"
unfolding ascii digits decimal
cells-case = refl
