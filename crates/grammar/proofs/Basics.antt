-- Laws that the libraries do not have: a test decides; what holds of every element holds of one; the element at a place, and those behind
-- it. Assumes nothing.
use mathlib.Core.Path.{◌≡◌, refl, sym, ap, ◌∙◌, subst⁻¹}
use mathlib.Core.Bool.{Bool, true, false, cond}
use mathlib.Core.List.{List, [], ◌∷◌, Memᴰ}
use Prim.Native.Nat.{ℕ, ◌+◌, ◌<◌}
use native.Mathlib.Numerals.{add-one}
use lib.ListN.{length, drop, get_or}
use lib.Seq.{drop-cons}
use Rattle.tsparql.specs.Lists.{Every}

pub cond_cases : {A : Type 0} (P : A → Type 0) (c : Bool) {x y : A} → (c ≡ true → P x) → (c ≡ false → P y) → P (cond c x y)
cond_cases P true f g = f refl
cond_cases P false f g = g refl

pub every-member : {A : Type 0} (P : A → Type 0) {x : A} (xs : List A) → Every P xs → Memᴰ x xs → P x
every-member P [] h m = elim m [ ]
every-member P (y ∷ ys) h (Memᴰ.head q) = subst⁻¹ P q h.0
every-member P (y ∷ ys) h (Memᴰ.tail m) = every-member P ys h.1 m

pub ahead : (s : List ℕ) (i : ℕ) → i < length s → drop i s ≡ get_or s i 0 ∷ drop (i + 1) s
ahead s i h = drop-cons s i 0 h ∙ ap (λ (n : ℕ). get_or s i 0 ∷ drop n s) (sym (add-one i))
