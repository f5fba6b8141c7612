-- Sums over lists; a test of sameness that is equality; the distinct elements by such a test, each as often as it stands in the list
-- (`sum-distinct`), once (`keep_if-distinct`), of a list with one element more (`distinct_more`), and of lists of the same elements
-- (`distinct-sums`). Assumes nothing.
use mathlib.Core.Path.{◌≡◌, refl, sym, ap, ap₂, subst, ◌∙◌}
use mathlib.Core.Bool.{Bool, true, false, ◌&&◌, ◌||◌, not, not-and_self, or-true}
use mathlib.Core.List.{List, [], ◌∷◌, ◌++◌, map, append-nil, append_assoc}
use Prim.Native.Nat.{ℕ, ◌+◌, ◌*◌, ◌≤◌}
use native.Mathlib.Nat.{le_refl, zero-add, add-zero, zero-mul, mul-zero, mul-one, mul-add, suc-mul}
use native.Mathlib.Omega.{arith}
use lib.ListN.{length, take, length-append}
use borrow.Author.Tests.{not-true}
use Rattle.tsparql.specs.Lists.{Every, cons_if, keep_if, any_pass, distinct_by, sum_over}
use Rattle.tsparql.specs.Cardinality.{count_if}
use Rattle.tsparql.proofs.ListLaws.{and_right, and_both, test-eq, every_of, every-weaken, every-keep_if, length-keep_if}
use Rattle.tsparql.proofs.ListLaws.{keep_if-append, keep_if-cons_if, keep_if-keep_if, keep_if-cong, keep_if-none, keep_if-passes, keep_if-map}

-- ---- sums over lists

pub count_if-mul : (b : Bool) (n m : ℕ) → n * count_if b m ≡ count_if b (n * m)
count_if-mul true n m = refl
count_if-mul false n m = mul-zero n

-- a number is what it counts where a test passes, and where it does not
pub count_if-split : (b : Bool) (n : ℕ) → n ≡ count_if b n + count_if (not b) n
count_if-split true n = omega arith
count_if-split false n = omega arith

-- and so by two, where the first passed
pub count_if-and : (b d : Bool) (n : ℕ) → count_if b n ≡ count_if (b && d) n + count_if (b && not d) n
count_if-and true d n = count_if-split d n
count_if-and false d n = refl

module _ {A : Type 0} where
  pub sum_over-add : (xs : List A) (f g : A → ℕ) → sum_over xs (λ x. f x + g x) ≡ sum_over xs f + sum_over xs g
  sum_over-add [] f g = refl
  sum_over-add (x ∷ xs) f g = omega (arith, sum_over-add xs f g)

  pub sum_over-mul : (n : ℕ) (xs : List A) (f : A → ℕ) → n * sum_over xs f ≡ sum_over xs (λ x. n * f x)
  sum_over-mul n [] f = mul-zero n
  sum_over-mul n (x ∷ xs) f = mul-add n (f x) (sum_over xs f) ∙ ap (λ (s : ℕ). n * f x + s) (sum_over-mul n xs f)

  -- two functions that agree on every element have the same sum
  pub sum_over-cong : (xs : List A) (f g : A → ℕ) → Every (λ x. f x ≡ g x) xs → sum_over xs f ≡ sum_over xs g
  sum_over-cong [] f g e = refl
  sum_over-cong (x ∷ xs) f g e = ap₂ ◌+◌ e.0 (sum_over-cong xs f g e.1)

  -- two functions that agree everywhere have the same sum
  pub sum_over-same : (xs : List A) (f g : A → ℕ) → ((x : A) → f x ≡ g x) → sum_over xs f ≡ sum_over xs g
  sum_over-same xs f g e = sum_over-cong xs f g (every_of e xs)

  pub sum_over-cons_if : (b : Bool) (x : A) (xs : List A) (f : A → ℕ) → sum_over (cons_if b x xs) f ≡ count_if b (f x) + sum_over xs f
  sum_over-cons_if true x xs f = refl
  sum_over-cons_if false x xs f = omega arith

  -- a sum is the sum over the elements that pass a test, and over those that do not
  pub sum_over-split : (p : A → Bool) (xs : List A) (f : A → ℕ)
      → sum_over xs f ≡ sum_over (keep_if p xs) f + sum_over (keep_if (λ x. not (p x)) xs) f
  sum_over-split p [] f = refl
  sum_over-split p (x ∷ xs) f =
      omega (
        arith,
        sum_over-split p xs f,
        count_if-split (p x) (f x),
        sum_over-cons_if (p x) x (keep_if p xs) f,
        sum_over-cons_if (not (p x)) x (keep_if (λ y. not (p y)) xs) f,
      )

  -- the length of a list, as a sum
  pub length-sum : (xs : List A) → length xs ≡ sum_over xs (λ x. 1)
  length-sum [] = refl
  length-sum (x ∷ xs) = omega (arith, length-sum xs)

  -- the elements that pass a test
  pub sum_over-keep_if : (p : A → Bool) (xs : List A) (f : A → ℕ) → sum_over (keep_if p xs) f ≡ sum_over xs (λ x. count_if (p x) (f x))
  sum_over-keep_if p [] f = refl
  sum_over-keep_if p (x ∷ xs) f =
      sum_over-cons_if (p x) x (keep_if p xs) f ∙ ap (λ (n : ℕ). count_if (p x) (f x) + n) (sum_over-keep_if p xs f)

  -- counted one by one
  pub length-keep_if-sum : (p : A → Bool) (xs : List A) → length (keep_if p xs) ≡ sum_over xs (λ x. count_if (p x) 1)
  length-keep_if-sum p xs = length-sum (keep_if p xs) ∙ sum_over-keep_if p xs (λ x. 1)

  pub sum_over-append : (xs ys : List A) (f : A → ℕ) → sum_over (xs ++ ys) f ≡ sum_over xs f + sum_over ys f
  sum_over-append [] ys f = sym (zero-add (sum_over ys f))
  sum_over-append (x ∷ xs) ys f = omega (arith, sum_over-append xs ys f)

  pub sum_over-zero : (xs : List A) → sum_over xs (λ x. 0) ≡ 0
  sum_over-zero [] = refl
  sum_over-zero (x ∷ xs) = omega (arith, sum_over-zero xs)

pub sum_over-map : {A B : Type 0} (f : B → ℕ) (h : A → B) (xs : List A) → sum_over (map h xs) f ≡ sum_over xs (λ x. f (h x))
sum_over-map f h [] = refl
sum_over-map f h (x ∷ xs) = ap (λ (n : ℕ). f (h x) + n) (sum_over-map f h xs)

-- a sum of sums, in either order
pub sum_over-swap : {A B : Type 0} (xs : List A) (ys : List B) (h : A → B → ℕ)
    → sum_over xs (λ x. sum_over ys (h x)) ≡ sum_over ys (λ y. sum_over xs (λ x. h x y))
sum_over-swap [] ys h = sym (sum_over-zero ys)
sum_over-swap (x ∷ xs) ys h =
    ap (λ (n : ℕ). sum_over ys (h x) + n) (sum_over-swap xs ys h) ∙ sym (sum_over-add ys (h x) (λ y. sum_over xs (λ z. h z y)))

-- ---- a test of sameness

-- the test is equality
pub record TellsSame {A : Type 0} (same : A → A → Bool) : Type 0 where
  pub only : (x y : A) → same x y ≡ true → x ≡ y
  pub self : (x : A) → same x x ≡ true

module _ {A : Type 0} (same : A → A → Bool) (tells : TellsSame same) where
  pub same-of-eq : (x y : A) → x ≡ y → same x y ≡ true
  same-of-eq x y e = rw e (tells.self y)

  pub same-sym : (x y : A) → same x y ≡ same y x
  same-sym x y =
      test-eq (same x y) (same y x) (λ e. same-of-eq y x (sym (tells.only x y e))) (λ e. same-of-eq x y (sym (tells.only y x e)))

-- ---- the distinct elements of a list

module _ {A : Type 0} (same : A → A → Bool) where
  -- what holds of every element holds of the distinct ones
  pub every-distinct : (P : A → Type 0) (xs : List A) → Every P xs → Every P (distinct_by same xs)
  every-distinct P [] e = tt
  every-distinct P (x ∷ xs) e = (e.0, every-keep_if P (λ y. not (same x y)) (distinct_by same xs) (every-distinct P xs e.1))

  pub length-distinct : (xs : List A) → length (distinct_by same xs) ≤ length xs
  length-distinct [] = le_refl 0
  length-distinct (x ∷ xs) = omega (arith, length-distinct xs, length-keep_if (λ y. not (same x y)) (distinct_by same xs))

-- by two tests that agree on the elements they are the same
pub distinct-cong : {A : Type 0} (same other : A → A → Bool) (P : A → Type 0) → ((x y : A) → P x → P y → same x y ≡ other x y)
    → (xs : List A) → Every P xs → distinct_by same xs ≡ distinct_by other xs
distinct-cong same other P e [] h = refl
distinct-cong {A = A} same other P e (x ∷ xs) h =
    ap (λ (ys : List A). x ∷ keep_if (λ y. not (same x y)) ys) (distinct-cong same other P e xs h.1)
    ∙ ap (λ (ys : List A). x ∷ ys)
    (keep_if-cong (λ y. not (same x y)) (λ y. not (other x y)) (distinct_by other xs)
    (every-weaken (λ y k. ap not (e x y h.0 k)) (distinct_by other xs) (every-distinct other P xs h.1)))

-- the distinct values of elements are those of elements with distinct values
pub distinct-map : {A B : Type 0} (same : B → B → Bool) (f : A → B) (xs : List A)
    → distinct_by same (map f xs) ≡ map f (distinct_by (λ x y. same (f x) (f y)) xs)
distinct-map same f [] = refl
distinct-map {B = B} same f (x ∷ xs) =
    ap (λ (ys : List B). f x ∷ keep_if (λ y. not (same (f x) y)) ys) (distinct-map same f xs)
    ∙ ap (λ (ys : List B). f x ∷ ys) (keep_if-map (λ y. not (same (f x) y)) f (distinct_by (λ y z. same (f y) (f z)) xs))

-- where some element passes, one is kept
some-kept : {A : Type 0} (p : A → Bool) (xs : List A) → any_pass p xs ≡ true → length (keep_if p xs) ≡ 0 → ⊥
some-kept p [] e z = let no : ◌≡◌ {A = ℕ} 0 1 = cc in omega arith
some-kept p (x ∷ xs) e z = at (p x) e z (some-kept p xs)
  where
    at : (b : Bool) → b || any_pass p xs ≡ true → length (cons_if b x (keep_if p xs)) ≡ 0
        → (any_pass p xs ≡ true → length (keep_if p xs) ≡ 0 → ⊥) → ⊥
    at true e z later = omega arith
    at false e z later = later e z

module _ {A : Type 0} (same : A → A → Bool) (tells : TellsSame same) where
  -- of the distinct elements, x is the one there is, if there is one
  pub keep_if-distinct : (x : A) (ys : List A) → keep_if (same x) (distinct_by same ys) ≡ take 1 (keep_if (same x) ys)
  keep_if-distinct x [] = refl
  keep_if-distinct x (y ∷ ys) = at (same x y) refl (keep_if-distinct x ys)
    where
      others : List A
      others = keep_if (λ z. not (same y z)) (distinct_by same ys)

      both : (z : A) → Bool
      both z = not (same y z) && same x z

      twice : keep_if (same x) others ≡ keep_if both (distinct_by same ys)
      twice = keep_if-keep_if (same x) (λ z. not (same y z)) (distinct_by same ys)

      none : (z : A) → x ≡ y → both z ≡ false
      none z e = rw e (not-and_self (same y z))

      kept : (z : A) → same x y ≡ false → both z ≡ same x z
      kept z e =
          test-eq (both z) (same x z) (and_right (not (same y z)) (same x z))
          (λ f. and_both (ap not (ap (same y) (sym (tells.only x z f)) ∙ same-sym same tells y x ∙ e)) f)

      at : (b : Bool) → same x y ≡ b → keep_if (same x) (distinct_by same ys) ≡ take 1 (keep_if (same x) ys)
          → cons_if b y (keep_if (same x) others) ≡ take 1 (cons_if b y (keep_if (same x) ys))
      at true e h =
          let gone : keep_if both (distinct_by same ys) ≡ [] =
          keep_if-none both (distinct_by same ys) (every_of (λ z. none z (tells.only x y e)) (distinct_by same ys)) in
          ap (λ (zs : List A). y ∷ zs) (twice ∙ gone)
      at false e h = twice ∙ keep_if-cong both (same x) (distinct_by same ys) (every_of (λ z. kept z e) (distinct_by same ys)) ∙ h

  -- where every element is x, and a value of 0 stands for none: the value of the first element is that of x
  sum_over-first : (x : A) (ys : List A) (f : A → ℕ) → Every (λ y. same x y ≡ true) ys → (length ys ≡ 0 → f x ≡ 0)
      → sum_over (take 1 ys) f ≡ f x
  sum_over-first x [] f e h = sym (h refl)
  sum_over-first x (y ∷ ys) f e h = add-zero (f y) ∙ ap f (sym (tells.only x y e.0))

  -- every element stands in its list
  pub members : (xs : List A) → Every (λ x. any_pass (same x) xs ≡ true) xs
  members [] = tt
  members (x ∷ xs) = (
    ap (λ (b : Bool). b || any_pass (same x) xs) (tells.self x),
    every-weaken (λ y e. ap (λ (b : Bool). same y x || b) e ∙ or-true (same y x)) xs (members xs),
  )

  -- what holds of every element holds of one that stands there
  pub every-member : (P : A → Type 0) (xs : List A) → Every P xs → (x : A) → any_pass (same x) xs ≡ true → P x
  every-member P [] h x e = absurd (let no : ◌≡◌ {A = ℕ} 0 1 = cc in omega arith)
  every-member P (y ∷ ys) h x e = at (same x y) refl e (every-member P ys h.1 x)
    where
      at : (b : Bool) → same x y ≡ b → b || any_pass (same x) ys ≡ true → (any_pass (same x) ys ≡ true → P x) → P x
      at true d e later = subst P (sym (tells.only x y d)) h.0
      at false d e later = later e

  -- of the distinct elements, the one that x is gives what x gives
  sum_one : (x : A) (ys : List A) (f : A → ℕ) → any_pass (same x) ys ≡ true
      → sum_over (distinct_by same ys) (λ y. count_if (same x y) (f y)) ≡ f x
  sum_one x ys f e =
      sym (sum_over-keep_if (same x) (distinct_by same ys) f)
      ∙ ap (λ (zs : List A). sum_over zs f) (keep_if-distinct x ys)
      ∙ sum_over-first x (keep_if (same x) ys) f (keep_if-passes (same x) ys) (λ z. absurd (some-kept (same x) ys e z))

  -- lists of the same elements have the same distinct ones, in whatever order
  pub distinct-sums : (xs ys : List A) → ((x : A) → any_pass (same x) xs ≡ any_pass (same x) ys) → (f : A → ℕ)
      → sum_over (distinct_by same xs) f ≡ sum_over (distinct_by same ys) f
  distinct-sums xs ys h f =
      sum_over-cong ds f (λ x. sum_over es (λ y. count_if (same x y) (f y)))
      (every-weaken (λ x e. sym (sum_one x ys f (sym (h x) ∙ e))) ds (every-distinct same (Stands xs) xs (members xs)))
      ∙ sum_over-swap ds es (λ x y. count_if (same x y) (f y))
      ∙ sum_over-cong es (λ y. sum_over ds (λ x. count_if (same x y) (f y))) f
      (every-weaken (λ y e. turned y ∙ sum_one y xs (λ _. f y) (h y ∙ e)) es (every-distinct same (Stands ys) ys (members ys)))
    where
      ds : List A
      ds = distinct_by same xs

      es : List A
      es = distinct_by same ys

      Stands : List A → A → Type 0
      Stands zs z = any_pass (same z) zs ≡ true

      turned : (y : A) → sum_over ds (λ x. count_if (same x y) (f y)) ≡ sum_over ds (λ x. count_if (same y x) (f y))
      turned y = sum_over-same ds _ _ (λ x. ap (λ (b : Bool). count_if b (f y)) (same-sym same tells x y))

  -- how often an element stands in a list
  abbrev times : List A → A → ℕ
  times xs x = length (keep_if (same x) xs)

  -- a sum over a list is the sum over its distinct elements, each as often as it stands in the list
  pub sum-distinct : (xs : List A) (f : A → ℕ)
      → sum_over xs f ≡ sum_over (distinct_by same xs) (λ x. length (keep_if (same x) xs) * f x)
  sum-distinct [] f = refl
  sum-distinct (x ∷ xs) f = total (sum-distinct xs f)
    where
      each : A → ℕ
      each y = times xs y * f y

      others : List A
      others = keep_if (λ y. not (same x y)) (distinct_by same xs)

      front : times (x ∷ xs) x * f x ≡ f x + each x
      front = rw (tells.self x) (omega (arith, suc-mul (times xs x) (f x)))

      here : sum_over (keep_if (same x) (distinct_by same xs)) each ≡ each x
      here =
          rw (keep_if-distinct x xs)
          (sum_over-first x (keep_if (same x) xs) each (keep_if-passes (same x) xs) (λ e. ap (λ (n : ℕ). n * f x) e ∙ zero-mul (f x)))

      skipped : (y : A) → not (same x y) ≡ true → each y ≡ times (x ∷ xs) y * f y
      skipped y e = rw (same-sym same tells y x, not-true (same x y) e)

      there : sum_over others each ≡ sum_over others (λ y. times (x ∷ xs) y * f y)
      there = sum_over-cong others each _ (every-weaken skipped others (keep_if-passes (λ y. not (same x y)) (distinct_by same xs)))

      total : sum_over xs f ≡ sum_over (distinct_by same xs) each
          → sum_over (x ∷ xs) f ≡ sum_over (distinct_by same (x ∷ xs)) (λ y. times (x ∷ xs) y * f y)
      total h = omega (arith, front, here, there, sum_over-split (same x) (distinct_by same xs) each)

  -- how many elements pass a test, over the distinct ones
  pub length-keep_if-distinct : (p : A → Bool) (xs : List A)
      → length (keep_if p xs) ≡ sum_over (distinct_by same xs) (λ x. count_if (p x) (length (keep_if (same x) xs)))
  length-keep_if-distinct p xs =
      length-keep_if-sum p xs
      ∙ sum-distinct xs (λ x. count_if (p x) 1)
      ∙ sum_over-same (distinct_by same xs) _ _ (λ x. count_if-mul (p x) (times xs x) 1 ∙ ap (count_if (p x)) (mul-one (times xs x)))

  -- an element more is a distinct one where it does not stand there yet
  pub distinct_more : (xs : List A) (x : A)
      → distinct_by same (xs ++ (x ∷ [])) ≡ distinct_by same xs ++ cons_if (not (any_pass (same x) xs)) x []
  distinct_more [] x = refl
  distinct_more (y ∷ ys) x =
      let p : A → Bool = λ z. not (same y z) in
      ap (λ (r : List A). y ∷ keep_if p r) (distinct_more ys x)
      ∙ ap (λ (r : List A). y ∷ r)
      (keep_if-append p (distinct_by same ys) (cons_if (not (any_pass (same x) ys)) x [])
      ∙ ap (λ (r : List A). keep_if p (distinct_by same ys) ++ r)
      (keep_if-cons_if p (not (any_pass (same x) ys)) x []
      ∙ ap (λ (b : Bool). cons_if b x []) (both (any_pass (same x) ys) (same y x) (same x y) (same-sym same tells x y))))
    where
      both : (a b e : Bool) → e ≡ b → not a && not b ≡ not (e || a)
      both true b true h = refl
      both true b false h = refl
      both false b true h = rw (sym h)
      both false b false h = rw (sym h)

  -- one that stands there already adds none
  pub distinct-old : (xs : List A) (x : A) → any_pass (same x) xs ≡ true → distinct_by same (xs ++ (x ∷ [])) ≡ distinct_by same xs
  distinct-old xs x e = distinct_more xs x ∙ rw e (append-nil (distinct_by same xs))

  -- one that does not comes last
  pub distinct-new : (xs : List A) (x : A) → any_pass (same x) xs ≡ false → distinct_by same (xs ++ (x ∷ [])) ≡ distinct_by same xs ++ (x ∷ [])
  distinct-new xs x e = distinct_more xs x ∙ rw e

  -- a longer list has no fewer
  pub distinct-grow : (xs ys : List A) → length (distinct_by same xs) ≤ length (distinct_by same (xs ++ ys))
  distinct-grow xs [] = rw (append-nil xs) (le_refl _)
  distinct-grow xs (y ∷ ys) =
      let ds = distinct_by same xs in
      let one = ap length (distinct_more xs y) ∙ length-append ds (cons_if (not (any_pass (same y) xs)) y []) in
      let rest = distinct-grow (xs ++ (y ∷ [])) ys in
      let whole : (xs ++ (y ∷ [])) ++ ys ≡ xs ++ (y ∷ ys) = append_assoc xs (y ∷ []) ys in
      let more = ap (λ (l : List A). length (distinct_by same l)) whole in
      omega (arith, one, rest, more)
