-- Functions on lists that the definitions are made of: choosing elements by a test, lists one after the other, what holds of every
-- element, each element once, sums, rising numbers.
-- Their laws are in proofs/ListLaws.antt, those of distinct elements and sums in SumLaws. Length, take, drop, set and the like are the
-- library's (lib.ListN).
-- Assumes nothing.
use Rattle.std.specs.Prelude.{Bool, true, false, ◌&&◌, ◌||◌, not, List, [], ◌∷◌, ◌++◌, ℕ, zero, suc, ◌+◌}

module _ {A : Type 0} where
  -- x in front of xs where the test passed
  abbrev pub cons_if : Bool → A → List A → List A
  cons_if true x xs = x ∷ xs
  cons_if false x xs = xs

  -- the list where the test passed, and else nothing
  abbrev pub only_if : Bool → List A → List A
  only_if true xs = xs
  only_if false xs = []

  -- the elements that pass the test, in order
  abbrev pub keep_if : (A → Bool) → List A → List A
  keep_if p [] = []
  keep_if p (x ∷ xs) = cons_if (p x) x (keep_if p xs)

  -- every element passes the test
  abbrev pub all_pass : (A → Bool) → List A → Bool
  all_pass p [] = true
  all_pass p (x ∷ xs) = p x && all_pass p xs

  -- some element passes the test
  abbrev pub any_pass : (A → Bool) → List A → Bool
  any_pass p [] = false
  any_pass p (x ∷ xs) = p x || any_pass p xs

  -- each element once, in order of first appearance; the test says which are the same
  abbrev pub distinct_by : (A → A → Bool) → List A → List A
  distinct_by same [] = []
  distinct_by same (x ∷ xs) = x ∷ keep_if (λ y. not (same x y)) (distinct_by same xs)

  -- the sum of what f gives
  abbrev pub sum_over : List A → (A → ℕ) → ℕ
  sum_over [] f = 0
  sum_over (x ∷ xs) f = f x + sum_over xs f

module _ {A B : Type 0} where
  -- the lists that f makes of the elements, one after the other
  abbrev pub concat_map : (A → List B) → List A → List B
  concat_map f [] = []
  concat_map f (x ∷ xs) = f x ++ concat_map f xs

-- P holds of every element
abbrev pub Every : {A : Type 0} → (A → Type 0) → List A → Type 0
Every P [] = Unit {0}
Every P (x ∷ xs) = P x × Every P xs

-- n numbers from i on, rising by 1
abbrev pub up_from : ℕ → ℕ → List ℕ
up_from i zero = []
up_from i (suc n) = i ∷ up_from (suc i) n
