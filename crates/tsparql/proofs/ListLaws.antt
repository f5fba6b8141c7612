-- Laws of the functions on lists (specs/Lists.antt): tests; what holds of every element; all_pass and any_pass; keep_if, cons_if and only_if;
-- map and concat_map; a part of a slice.
-- Laws of length, take, drop, set and the like are the library's (lib.ListN, lib.Seq).
-- Assumes nothing.
use mathlib.Core.Path.{◌≡◌, refl, sym, ap, ◌∙◌}
use mathlib.Core.Bool.{Bool, true, false, ◌&&◌, ◌||◌, not, and_comm, and_assoc, and-false, or_assoc, or-true}
use mathlib.Core.List.{List, [], ◌∷◌, ◌++◌, map, append_assoc}
pub use mathlib.Core.List.{map-append}
use Prim.Native.Nat.{ℕ, zero, suc, ◌+◌, ◌-◌, ◌≤◌, ◌<◌, zero-le, suc-le-suc}
use native.Mathlib.Nat.{le_refl, le_step, le_trans, add-le-add}
use native.Mathlib.Omega.{arith}
use borrow.Author.Tests.{eqb-true, eqb-false, eq-eqb}
use lib.Dec.{eqb}
use lib.ListN.{length, take, drop, get_or, length-append, length-drop}
use lib.Seq.{take_all}
use Rattle.tsparql.specs.Lists.{Every, cons_if, only_if, keep_if, all_pass, any_pass, concat_map, up_from}

-- ---- tests

pub and_left : (p q : Bool) → p && q ≡ true → p ≡ true
and_left true q e = refl
and_left false q e = e

pub and_right : (p q : Bool) → p && q ≡ true → q ≡ true
and_right true q e = e
and_right false q e = cc

pub and_both : {p q : Bool} → p ≡ true → q ≡ true → p && q ≡ true
and_both d e = rw (d, e)

-- the first of two is false: it is the second
pub or_right : (p q : Bool) → p || q ≡ true → p ≡ false → q ≡ true
or_right true q e f = cc
or_right false q e f = e

-- three in a row, one by one
pub and-three : (p q r : Bool) → p && q && r ≡ true → (p ≡ true) × (q ≡ true) × (r ≡ true)
and-three p q r e = let two = and_left (p && q) r e in (and_left p q two, and_right p q two, and_right (p && q) r e)

-- grouped from the right, and from the left
pub and-regroup : (p q r s : Bool) → p && (q && (r && s)) ≡ p && q && r && s
and-regroup p q r s = sym (and_assoc p q (r && s)) ∙ sym (and_assoc (p && q) r s)

pub and-interchange : (a b c d : Bool) → (a && b) && (c && d) ≡ (a && c) && (b && d)
and-interchange true b c d = sym (and_assoc b c d) ∙ ap (λ (e : Bool). e && d) (and_comm b c) ∙ and_assoc c b d
and-interchange false b c d = refl

-- two tests are equal where each gives the other
pub test-eq : (p q : Bool) → (p ≡ true → q ≡ true) → (q ≡ true → p ≡ true) → p ≡ q
test-eq true q f g = sym (f refl)
test-eq false true f g = g refl
test-eq false false f g = refl

-- ---- what holds of every element

module _ {A : Type 0} where
  pub every_of : {P : A → Type 0} → ((x : A) → P x) → (xs : List A) → Every P xs
  every_of h [] = tt
  every_of h (x ∷ xs) = (h x, every_of h xs)

  pub every-weaken : {P Q : A → Type 0} → ((x : A) → P x → Q x) → (xs : List A) → Every P xs → Every Q xs
  every-weaken h [] e = tt
  every-weaken h (x ∷ xs) e = (h x e.0, every-weaken h xs e.1)

  pub every_append : (P : A → Type 0) (xs ys : List A) → Every P xs → Every P ys → Every P (xs ++ ys)
  every_append P [] ys d e = e
  every_append P (x ∷ xs) ys d e = (d.0, every_append P xs ys d.1 e)

  pub every-parts : (P : A → Type 0) (xs ys : List A) → Every P (xs ++ ys) → Every P xs × Every P ys
  every-parts P [] ys e = (tt, e)
  every-parts P (x ∷ xs) ys e = let parts = every-parts P xs ys e.1 in ((e.0, parts.0), parts.1)

  pub every-cons_if : (P : A → Type 0) (b : Bool) (x : A) (xs : List A) → P x → Every P xs → Every P (cons_if b x xs)
  every-cons_if P true x xs h e = (h, e)
  every-cons_if P false x xs h e = e

  pub every-only_if : (P : A → Type 0) (b : Bool) (xs : List A) → (b ≡ true → Every P xs) → Every P (only_if b xs)
  every-only_if P true xs e = e refl
  every-only_if P false xs e = tt

  pub every-keep_if : (P : A → Type 0) (p : A → Bool) (xs : List A) → Every P xs → Every P (keep_if p xs)
  every-keep_if P p [] e = tt
  every-keep_if P p (x ∷ xs) e = every-cons_if P (p x) x (keep_if p xs) e.0 (every-keep_if P p xs e.1)

  -- of the element at a place, and of every element by its place
  pub every-at : (P : A → Type 0) (xs : List A) (i : ℕ) (d : A) → i < length xs → Every P xs → P (get_or xs i d)
  every-at P [] i d h e = absurd (omega arith)
  every-at P (x ∷ xs) zero d h e = e.0
  every-at P (x ∷ xs) (suc i) d h e = every-at P xs i d (omega arith) e.1

  -- an element, whatever stands in for one behind the end
  pub get_d_any : (xs : List A) (i : ℕ) (d e : A) → i < length xs → get_or xs i d ≡ get_or xs i e
  get_d_any [] i d e h = absurd (omega arith)
  get_d_any (x ∷ xs) zero d e h = refl
  get_d_any (x ∷ xs) (suc i) d e h = get_d_any xs i d e (omega arith)

  pub every-each : (P : A → Type 0) (xs : List A) (d : A) → ((i : ℕ) → i < length xs → P (get_or xs i d)) → Every P xs
  every-each P [] d h = tt
  every-each P (x ∷ xs) d h = (h 0 (omega arith), every-each P xs d (λ i l. h (suc i) (omega arith)))

module _ {A B : Type 0} where
  pub every_map : (P : B → Type 0) (f : A → B) (xs : List A) → Every (λ x. P (f x)) xs → Every P (map f xs)
  every_map P f [] e = tt
  every_map P f (x ∷ xs) e = (e.0, every_map P f xs e.1)

  pub every-concat_map : (P : B → Type 0) (f : A → List B) (xs : List A) → Every (λ x. Every P (f x)) xs → Every P (concat_map f xs)
  every-concat_map P f [] e = tt
  every-concat_map P f (x ∷ xs) e = every_append P (f x) (concat_map f xs) e.0 (every-concat_map P f xs e.1)

-- what holds of n numbers from i on
pub every-up_from : (P : ℕ → Type 0) (i n : ℕ) → ((v : ℕ) → v < i + n → P v) → Every P (up_from i n)
every-up_from P i zero h = tt
every-up_from P i (suc n) h = (h i (omega arith), every-up_from P (suc i) n (λ v l. h v (omega arith)))

-- ---- all_pass and any_pass

module _ {A : Type 0} where
  pub all_pass-every : (p : A → Bool) (xs : List A) → Every (λ x. p x ≡ true) xs → all_pass p xs ≡ true
  all_pass-every p [] e = refl
  all_pass-every p (x ∷ xs) e = and_both e.0 (all_pass-every p xs e.1)

  pub all_pass-passes : (p : A → Bool) (xs : List A) → all_pass p xs ≡ true → Every (λ x. p x ≡ true) xs
  all_pass-passes p [] e = tt
  all_pass-passes p (x ∷ xs) e = (and_left (p x) (all_pass p xs) e, all_pass-passes p xs (and_right (p x) (all_pass p xs) e))

  -- two tests that agree on every element
  pub all_pass-cong : (p q : A → Bool) (xs : List A) → Every (λ x. p x ≡ q x) xs → all_pass p xs ≡ all_pass q xs
  all_pass-cong p q [] e = refl
  all_pass-cong p q (x ∷ xs) e = rw (e.0, all_pass-cong p q xs e.1)

  pub all_pass-append : (p : A → Bool) (xs ys : List A) → all_pass p (xs ++ ys) ≡ all_pass p xs && all_pass p ys
  all_pass-append p [] ys = refl
  all_pass-append p (x ∷ xs) ys =
      ap (λ (b : Bool). p x && b) (all_pass-append p xs ys) ∙ sym (and_assoc (p x) (all_pass p xs) (all_pass p ys))

  -- two tests are one
  pub all_pass-and : (p q : A → Bool) (xs : List A) → all_pass (λ x. p x && q x) xs ≡ all_pass p xs && all_pass q xs
  all_pass-and p q [] = refl
  all_pass-and p q (x ∷ xs) = rw (all_pass-and p q xs) (and-interchange (p x) (q x) (all_pass p xs) (all_pass q xs))

  -- a test that is two tests on every element, the first of which comes to b
  pub all_pass-two : (p q r : A → Bool) (b : Bool) (xs : List A) → Every (λ x. p x ≡ q x && r x) xs → all_pass q xs ≡ b
      → all_pass p xs ≡ b && all_pass r xs
  all_pass-two p q r b xs e h =
      all_pass-cong p (λ x. q x && r x) xs e ∙ all_pass-and q r xs ∙ ap (λ (t : Bool). t && all_pass r xs) h

  all_pass-cons_if : (p : A → Bool) (b : Bool) (x : A) (xs : List A) → all_pass p (cons_if b x xs) ≡ (not b || p x) && all_pass p xs
  all_pass-cons_if p true x xs = refl
  all_pass-cons_if p false x xs = refl

  -- a test on those that pass another
  pub all_pass-keep_if : (p q : A → Bool) (xs : List A) → all_pass p (keep_if q xs) ≡ all_pass (λ x. not (q x) || p x) xs
  all_pass-keep_if p q [] = refl
  all_pass-keep_if p q (x ∷ xs) =
      all_pass-cons_if p (q x) x (keep_if q xs) ∙ ap (λ (b : Bool). (not (q x) || p x) && b) (all_pass-keep_if p q xs)

  pub any_pass-append : (p : A → Bool) (xs ys : List A) → any_pass p (xs ++ ys) ≡ any_pass p xs || any_pass p ys
  any_pass-append p [] ys = refl
  any_pass-append p (x ∷ xs) ys =
      ap (λ (b : Bool). p x || b) (any_pass-append p xs ys) ∙ sym (or_assoc (p x) (any_pass p xs) (any_pass p ys))

  -- none passes
  pub any_pass-none : (p : A → Bool) (xs : List A) → Every (λ x. p x ≡ false) xs → any_pass p xs ≡ false
  any_pass-none p [] e = refl
  any_pass-none p (x ∷ xs) e = rw e.0 (any_pass-none p xs e.1)

  pub any_pass-fails : (p : A → Bool) (xs : List A) → any_pass p xs ≡ false → Every (λ x. p x ≡ false) xs
  any_pass-fails p [] e = tt
  any_pass-fails p (x ∷ xs) e = go (p x) refl e (any_pass-fails p xs)
    where
      go : (b : Bool) → p x ≡ b → b || any_pass p xs ≡ false → (any_pass p xs ≡ false → Every (λ y. p y ≡ false) xs)
          → (p x ≡ false) × Every (λ y. p y ≡ false) xs
      go true f e k = (f ∙ e, k (cc e))
      go false f e k = (f, k e)

  -- one passes
  pub any_pass-at : (p : A → Bool) (xs : List A) (i : ℕ) (d : A) → i < length xs → p (get_or xs i d) ≡ true → any_pass p xs ≡ true
  any_pass-at p [] i d h e = absurd (omega arith)
  any_pass-at p (x ∷ xs) zero d h e = rw e
  any_pass-at p (x ∷ xs) (suc i) d h e = rw (any_pass-at p xs i d (omega arith) e) (or-true (p x))

-- a test that fails for one of n numbers from i on
pub all_pass-fails : (p : ℕ → Bool) (i n m : ℕ) → i ≤ m → m < i + n → p m ≡ false → all_pass p (up_from i n) ≡ false
all_pass-fails p i zero m h k e = absurd (omega arith)
all_pass-fails p i (suc n) m h k e = by (eqb i m) refl (λ l. all_pass-fails p (suc i) n m l (omega arith) e)
  where
    by : (t : Bool) → eqb i m ≡ t → (suc i ≤ m → all_pass p (up_from (suc i) n) ≡ false) → p i && all_pass p (up_from (suc i) n) ≡ false
    by true d again = rw (eqb-true i m d, e)
    by false d again = let z = eqb-false i m d in rw (again (omega arith)) (and-false (p i))

-- a test of one of n numbers from i on
pub all_pass-only : (i n m : ℕ) (b : Bool) → i ≤ m → m < i + n → all_pass (λ v. not (eqb v m) || b) (up_from i n) ≡ b
all_pass-only i n m true h k =
    all_pass-every (λ v. not (eqb v m) || true) (up_from i n) (every_of (λ v. or-true (not (eqb v m))) (up_from i n))
all_pass-only i n m false h k = all_pass-fails (λ v. not (eqb v m) || false) i n m h k (rw (eq-eqb m m refl))

-- ---- keep_if, cons_if, only_if

module _ {A : Type 0} where
  pub cons_if-append : (b : Bool) (x : A) (xs ys : List A) → cons_if b x xs ++ ys ≡ cons_if b x (xs ++ ys)
  cons_if-append true x xs ys = refl
  cons_if-append false x xs ys = refl

  pub keep_if-append : (p : A → Bool) (xs ys : List A) → keep_if p (xs ++ ys) ≡ keep_if p xs ++ keep_if p ys
  keep_if-append p [] ys = refl
  keep_if-append p (x ∷ xs) ys =
      ap (cons_if (p x) x) (keep_if-append p xs ys) ∙ sym (cons_if-append (p x) x (keep_if p xs) (keep_if p ys))

  pub keep_if-cons_if : (p : A → Bool) (b : Bool) (x : A) (xs : List A) → keep_if p (cons_if b x xs) ≡ cons_if (b && p x) x (keep_if p xs)
  keep_if-cons_if p true x xs = refl
  keep_if-cons_if p false x xs = refl

  pub keep_if-only_if : (p : A → Bool) (b : Bool) (xs : List A) → keep_if p (only_if b xs) ≡ only_if b (keep_if p xs)
  keep_if-only_if p true xs = refl
  keep_if-only_if p false xs = refl

  -- two tests are one
  pub keep_if-keep_if : (p q : A → Bool) (xs : List A) → keep_if p (keep_if q xs) ≡ keep_if (λ x. q x && p x) xs
  keep_if-keep_if p q [] = refl
  keep_if-keep_if p q (x ∷ xs) = keep_if-cons_if p (q x) x (keep_if q xs) ∙ ap (cons_if (q x && p x) x) (keep_if-keep_if p q xs)

  -- two tests that agree on every element keep the same
  pub keep_if-cong : (p q : A → Bool) (xs : List A) → Every (λ x. p x ≡ q x) xs → keep_if p xs ≡ keep_if q xs
  keep_if-cong p q [] e = refl
  keep_if-cong p q (x ∷ xs) e = rw (e.0, keep_if-cong p q xs e.1)

  pub keep_if-comm : (p q : A → Bool) (xs : List A) → keep_if p (keep_if q xs) ≡ keep_if q (keep_if p xs)
  keep_if-comm p q xs =
      keep_if-keep_if p q xs
      ∙ keep_if-cong (λ x. q x && p x) (λ x. p x && q x) xs (every_of (λ x. and_comm (q x) (p x)) xs)
      ∙ sym (keep_if-keep_if q p xs)

  -- a test that does not look at the element
  pub keep_if-and : (b : Bool) (p : A → Bool) (xs : List A) → keep_if (λ x. b && p x) xs ≡ only_if b (keep_if p xs)
  keep_if-and true p xs = refl
  keep_if-and false p [] = refl
  keep_if-and false p (x ∷ xs) = keep_if-and false p xs

  -- where a test implies b
  pub keep_if-under : (b : Bool) (p : A → Bool) (xs : List A) → Every (λ x. p x ≡ b && p x) xs → keep_if p xs ≡ only_if b (keep_if p xs)
  keep_if-under b p xs e = keep_if-cong p (λ x. b && p x) xs e ∙ keep_if-and b p xs

  -- what is kept passes the test
  pub keep_if-passes : (p : A → Bool) (xs : List A) → Every (λ x. p x ≡ true) (keep_if p xs)
  keep_if-passes p [] = tt
  keep_if-passes p (x ∷ xs) = at (p x) refl (keep_if-passes p xs)
    where
      at : (b : Bool) → p x ≡ b → Every (λ y. p y ≡ true) (keep_if p xs) → Every (λ y. p y ≡ true) (cons_if b x (keep_if p xs))
      at true e h = (e, h)
      at false e h = h

  -- a test that no element passes
  pub keep_if-none : (p : A → Bool) (xs : List A) → Every (λ x. p x ≡ false) xs → keep_if p xs ≡ []
  keep_if-none p [] e = refl
  keep_if-none p (x ∷ xs) e = rw (e.0, keep_if-none p xs e.1)

  pub length-only_if : (b : Bool) (xs : List A) → length (only_if b xs) ≤ length xs
  length-only_if true xs = le_refl (length xs)
  length-only_if false xs = zero-le

  pub length-cons_if : (b : Bool) (x : A) (xs : List A) → length (cons_if b x xs) ≤ suc (length xs)
  length-cons_if true x xs = le_refl (suc (length xs))
  length-cons_if false x xs = le_step (le_refl (length xs))

  pub length-keep_if : (p : A → Bool) (xs : List A) → length (keep_if p xs) ≤ length xs
  length-keep_if p [] = zero-le
  length-keep_if p (x ∷ xs) = le_trans (length-cons_if (p x) x (keep_if p xs)) (suc-le-suc (length-keep_if p xs))

-- ---- map and concat_map

-- element v of what f makes of n numbers from i on
pub get_d-map-up_from : {A : Type 0} (f : ℕ → A) (i n v : ℕ) (d : A) → v < n → get_or (map f (up_from i n)) v d ≡ f (i + v)
get_d-map-up_from f i zero v d h = absurd (omega arith)
get_d-map-up_from f i (suc n) zero d h = let e : i ≡ i + 0 = omega arith in ap f e
get_d-map-up_from f i (suc n) (suc v) d h =
    let e : suc i + v ≡ i + suc v = omega arith in
    get_d-map-up_from f (suc i) n v d (omega arith) ∙ ap f e

module _ {A B : Type 0} where
  pub map-cons_if : (f : A → B) (b : Bool) (x : A) (xs : List A) → map f (cons_if b x xs) ≡ cons_if b (f x) (map f xs)
  map-cons_if f true x xs = refl
  map-cons_if f false x xs = refl

  pub map-only_if : (f : A → B) (b : Bool) (xs : List A) → map f (only_if b xs) ≡ only_if b (map f xs)
  map-only_if f true xs = refl
  map-only_if f false xs = refl

  pub keep_if-map : (p : B → Bool) (f : A → B) (xs : List A) → keep_if p (map f xs) ≡ map f (keep_if (λ x. p (f x)) xs)
  keep_if-map p f [] = refl
  keep_if-map p f (x ∷ xs) =
      ap (cons_if (p (f x)) (f x)) (keep_if-map p f xs) ∙ sym (map-cons_if f (p (f x)) x (keep_if (λ y. p (f y)) xs))

  pub any_pass-map : (p : B → Bool) (f : A → B) (xs : List A) → any_pass p (map f xs) ≡ any_pass (λ x. p (f x)) xs
  any_pass-map p f [] = refl
  any_pass-map p f (x ∷ xs) = ap (λ (b : Bool). p (f x) || b) (any_pass-map p f xs)

  pub concat_map-append : (f : A → List B) (xs ys : List A) → concat_map f (xs ++ ys) ≡ concat_map f xs ++ concat_map f ys
  concat_map-append f [] ys = refl
  concat_map-append f (x ∷ xs) ys =
      ap (λ (r : List B). f x ++ r) (concat_map-append f xs ys) ∙ sym (append_assoc (f x) (concat_map f xs) (concat_map f ys))

  pub concat_map-cons_if : (f : A → List B) (b : Bool) (x : A) (xs : List A)
      → concat_map f (cons_if b x xs) ≡ only_if b (f x) ++ concat_map f xs
  concat_map-cons_if f true x xs = refl
  concat_map-cons_if f false x xs = refl

  pub keep_if-concat_map : (p : B → Bool) (f : A → List B) (xs : List A) → keep_if p (concat_map f xs) ≡ concat_map (λ x. keep_if p (f x)) xs
  keep_if-concat_map p f [] = refl
  keep_if-concat_map p f (x ∷ xs) =
      keep_if-append p (f x) (concat_map f xs) ∙ ap (λ (r : List B). keep_if p (f x) ++ r) (keep_if-concat_map p f xs)

  -- two functions that agree on every element, or everywhere
  pub concat_map-cong : (f g : A → List B) (xs : List A) → Every (λ x. f x ≡ g x) xs → concat_map f xs ≡ concat_map g xs
  concat_map-cong f g [] e = refl
  concat_map-cong f g (x ∷ xs) e = rw (e.0, concat_map-cong f g xs e.1)

  pub concat_map-same : (f g : A → List B) (xs : List A) → ((x : A) → f x ≡ g x) → concat_map f xs ≡ concat_map g xs
  concat_map-same f g xs e = concat_map-cong f g xs (every_of e xs)

  pub map-cong : (f g : A → B) (xs : List A) → Every (λ x. f x ≡ g x) xs → map f xs ≡ map g xs
  map-cong f g [] e = refl
  map-cong f g (x ∷ xs) e = rw (e.0, map-cong f g xs e.1)

  pub length-concat_map-keep_if : (f : A → List B) (p : A → Bool) (xs : List A)
      → length (concat_map f (keep_if p xs)) ≤ length (concat_map f xs)
  length-concat_map-keep_if f p [] = zero-le
  length-concat_map-keep_if f p (x ∷ xs) =
      rw (concat_map-cons_if, length-append (only_if (p x) (f x)), length-append (f x))
      (add-le-add (length-only_if (p x) (f x)) (length-concat_map-keep_if f p xs))

module _ {A B C : Type 0} where
  pub map-concat_map : (g : B → C) (f : A → List B) (xs : List A) → map g (concat_map f xs) ≡ concat_map (λ x. map g (f x)) xs
  map-concat_map g f [] = refl
  map-concat_map g f (x ∷ xs) = map-append g (f x) (concat_map f xs) ∙ ap (λ (r : List C). map g (f x) ++ r) (map-concat_map g f xs)

-- ---- parts of a slice

-- the list of the part from a place on
pub part-drop : (s : List ℕ) (at : ℕ) → take (length s - at) (drop at s) ≡ drop at s
part-drop s at = take_all (length s - at) (drop at s) (omega (arith, length-drop at s))
