-- Chains (specs/Chains): how many different cells a chain has (`bucket-apart`); chains of no rows, and with a row more; the search along a
-- chain for a row with a word. Assumes nothing.
use mathlib.Core.Path.{◌≡◌, refl, sym, ap, subst, ◌∙◌}
use mathlib.Core.Bool.{Bool, true, false}
use mathlib.Core.List.{List}
use Prim.Native.Nat.{ℕ, ◌+◌, ◌-◌, ◌*◌, ◌/◌, ◌%◌, ◌≤◌, ◌<◌}
use native.Mathlib.Omega.{arith}
use borrow.Author.Tests.{eqb-true, eqb-false}
use lib.Dec.{eqb}
use lib.ListN.{length, get_or, set, replicate, length-set, length-replicate, get_or-replicate}
use lib.Seq.{get_or-set_same, get_or-set_other}
use Rattle.rows.specs.RowWords.{word_of}
use Rattle.totals.specs.Chains.{bucket_count, most_rows, bucket, bucket_at, LastIn, Chained}

-- ---- buckets

low_part : (x a : ℕ) → (x % 65536 + a) % 65536 ≡ (x + a) % 65536
low_part x a = omega arith

same_low : (a l m : ℕ) → l < 65536 → m < 65536 → (l + a) % 65536 ≡ (m + a) % 65536 → l ≡ m
same_low a l m h k e = omega arith

both-parts : (x y : ℕ) → x / 65536 ≡ y / 65536 → x % 65536 ≡ y % 65536 → x ≡ y
both-parts x y d e = omega arith

-- two words with one upper part have different buckets; the words of cells have 17 upper parts, so a chain has at most 17 different cells
pub bucket-apart : (x y : ℕ) → x / 65536 ≡ y / 65536 → bucket x ≡ bucket y → x ≡ y
bucket-apart x y d e =
    let a = x / 65536 * 40503 in
    let here : bucket y ≡ (y + a) % 65536 = ap (λ (h : ℕ). (y + h * 40503) % 65536) (sym d) in
    let low = same_low a (x % 65536) (y % 65536) (omega arith) (omega arith) (low_part x a ∙ e ∙ here ∙ sym (low_part y a)) in
    both-parts x y d low

-- ---- the chains

-- of no rows none is the last
pub chained-none : (u : ℕ) (ws links : List ℕ) → length links ≡ most_rows → Chained u 0 ws (replicate bucket_count 0) links
chained-none u ws links h =
    record {
      buckets = length-replicate {A = ℕ} bucket_count 0;
      room = h;
      heads-last = λ b l. rw (get_or-replicate {A = ℕ} bucket_count b 0 0 l)
          (record { within = omega arith; hit = λ k. absurd (omega arith); over = λ k d e f. absurd (omega arith) });
      linked = λ j l. absurd (omega arith);
    }

module _ {u i : ℕ} {ws heads links : List ℕ} (h : i < most_rows) (c : Chained u i ws heads links) {own : ℕ}
    (own_is : own ≡ bucket_at u i ws) where
  own-small : own < bucket_count
  own-small = omega (arith, own_is)

  -- the last row of row i's bucket
  pub chained-last : LastIn u (bucket_at u i ws) i ws (get_or heads own 0)
  chained-last = subst (λ (b : ℕ). LastIn u b i ws (get_or heads own 0)) own_is (c.heads-last own own-small)

  -- row i stands in front of its chain, and links to the row that stood there
  pub chained_more : Chained u (i + 1) ws (set heads own (i + 1)) (set links i (get_or heads own 0))
  chained_more =
      record {
        buckets = length-set heads own (i + 1) ∙ c.buckets;
        room = length-set links i (get_or heads own 0) ∙ c.room;
        heads-last = λ b l. head b l (eqb own b) refl;
        linked = λ j l. link j l (eqb j i) refl;
      }
    where
      back : i + 1 - 1 ≡ i
      back = omega arith

      head : (b : ℕ) → b < bucket_count → (t : Bool) → eqb own b ≡ t → LastIn u b (i + 1) ws (get_or (set heads own (i + 1)) b 0)
      head b l true e =
          let same = eqb-true own b e in
          rw (sym same, get_or-set_same heads own (i + 1) 0 (rw c.buckets own-small))
          (record {
            within = omega arith;
            hit = λ _. ap (λ (m : ℕ). bucket_at u m ws) back ∙ sym own_is;
            over = λ k p q _. absurd (omega arith);
          })
      head b l false e =
          let differ = eqb-false own b e in
          let last = c.heads-last b l in
          rw (get_or-set_other heads own b (i + 1) 0 (λ z. differ (sym z)))
          (record { within = omega (arith, last.within); hit = last.hit; over = λ k p q d. beyond k p q d (eqb k i) refl })
        where
          beyond : (k : ℕ) → get_or heads b 0 ≤ k → k < i + 1 → bucket_at u k ws ≡ b → (t : Bool) → eqb k i ≡ t → ⊥
          beyond k p q d true f = eqb-false own b e (own_is ∙ rw (eqb-true k i f) at d)
          beyond k p q d false f = let z = eqb-false k i f in (c.heads-last b l).over k p (omega arith) d

      link : (j : ℕ) → j < i + 1 → (t : Bool) → eqb j i ≡ t
          → LastIn u (bucket_at u j ws) j ws (get_or (set links i (get_or heads own 0)) j 0)
      link j l true e =
          rw (eqb-true j i e, get_or-set_same links i (get_or heads own 0) 0 (omega (arith, c.room))) chained-last
      link j l false e =
          let z = eqb-false j i e in
          rw (get_or-set_other links i j (get_or heads own 0) 0 (λ w. omega arith)) (c.linked j (omega arith))

-- ---- the search

-- no row from c to row i has the word x, and row c is in its bucket
pub record SearchedTo (u i x : ℕ) (ws : List ℕ) (c : ℕ) : Type 0 where
  pub within : c ≤ i
  pub hit : 0 < c → bucket_at u (c - 1) ws ≡ bucket x
  pub none : (k : ℕ) → c ≤ k → k < i → word_of u k ws ≡ x → ⊥
