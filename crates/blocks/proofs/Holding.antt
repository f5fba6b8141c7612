-- What a buffer holds (`Holds`) after a byte came in front of a block (`puts`), bytes came behind the end (`appends`), and two blocks
-- changed places (`exchanges`), which three reversals do (`exchange-reversals`). Assumes nothing.
use mathlib.Core.Path.{◌≡◌, refl, sym, ap, ◌∙◌, subst}
use mathlib.Core.Bool as B
use mathlib.Core.List.{List, [], ◌∷◌, ◌++◌, append_assoc, append-nil, reverse, reverse-append, reverse-reverse}
use mathlib.Core.Logic.{◌⊎◌, ⊎_elim}
use Prim.Native.Nat.{ℕ, suc, ◌+◌, ◌-◌, ◌≤◌, ◌<◌, min}
use native.Mathlib.Omega.{arith}
use lib.ListN.{length, take, drop, get_or, length-append, length-drop, length-reverse, take-append-drop}
use lib.Seq.{drop-cons, drop-drop, take_at, drop_at, drop-append-add, length-take-le, take-add}
use lib.Dec.{leb}
use borrow.Author.Tests.{le-leb, lt-leb, lt-ltb}
use Rattle.blocks.specs.Buffers.{Filled, buffer, cut, shifted, inserted, prepended, appended, slice, reversed, exchanged}
use Rattle.blocks.specs.Blocks.{Holds, Puts, Appends, Exchanges}

-- the bytes that are held, and the rest of the buffer
pub holds-split : (b : Filled) (bs : List ℕ) (all : ℕ) → Holds b bs all → b.bytes ≡ bs ++ drop b.end b.bytes
holds-split b bs all h = sym (take-append-drop b.end b.bytes) ∙ ap (λ (x : List ℕ). x ++ drop b.end b.bytes) h.front

-- and of such a buffer they are held
pub split-holds :
    (l bs rest : List ℕ) (n all : ℕ) → l ≡ bs ++ rest → n ≡ length bs → length l ≡ all → Holds (buffer l n) bs all
split-holds l bs rest n all e s w =
    record { whole = w; size = s; front = ap (λ (x : List ℕ). take n x) e ∙ take_at bs rest n (sym s) }

-- what is held is no longer than the buffer
pub holds-within : (b : Filled) (bs : List ℕ) (all : ℕ) → Holds b bs all → b.end ≤ all
holds-within b bs all h =
    let s = h.size in
    let w = h.whole in
    omega (arith, length-append bs (drop b.end b.bytes), ap length (holds-split b bs all h))

-- of two blocks, the first alone
pub holds-cut : (b : Filled) (bs cs : List ℕ) (all n : ℕ) → Holds b (bs ++ cs) all → n ≡ length bs → Holds (cut b n) bs all
holds-cut b bs cs all n h e =
    let s = h.size in
    let m : min b.end n ≡ n = omega (arith, length-append bs cs) in
    rw m (split-holds b.bytes bs (cs ++ drop b.end b.bytes) n all (holds-split b (bs ++ cs) all h ∙ append_assoc bs cs (drop b.end b.bytes)) e h.whole)

-- ---- one byte

-- an insertion in front of the block C, over the byte behind it
inserted-blocks :
    (X C D : List ℕ) (d w i e : ℕ) → i ≡ length X → e ≡ i + length C → shifted (X ++ (C ++ d ∷ D)) i e w ≡ X ++ (w ∷ (C ++ D))
inserted-blocks X C D d w i e p q =
    let L = X ++ (C ++ d ∷ D) in
    let a : take i L ≡ X = take_at X (C ++ d ∷ D) i (sym p) in
    let n : length C ≡ e - i = omega arith in
    let c : take (e - i) (drop i L) ≡ C =
    ap (λ (l : List ℕ). take (e - i) l) (drop_at X (C ++ d ∷ D) i (sym p)) ∙ take_at C (d ∷ D) (e - i) n in
    let m : e + 1 ≡ length X + (length C + 1) = omega arith in
    let f : drop (e + 1) L ≡ D =
    ap (λ (k : ℕ). drop k L) m ∙ drop-append-add X (C ++ d ∷ D) (length C + 1) ∙ drop-append-add C (d ∷ D) 1 in
    rw (a, c, f)

pub length-shifted : (l : List ℕ) (i e v : ℕ) → i ≤ e → e < length l → length (shifted l i e v) ≡ length l
length-shifted l i e v h r =
    let m : length (take i l) ≡ i = length-take-le i l (omega arith) in
    let k : length (take (e - i) (drop i l)) ≡ e - i = length-take-le (e - i) (drop i l) (omega (arith, length-drop i l)) in
    let c = take (e - i) (drop i l) ++ drop (e + 1) l in
    omega (arith, m, k, length-append (take i l) (v ∷ c), length-append (take (e - i) (drop i l)) (drop (e + 1) l), length-drop (e + 1) l)

-- an insertion where there is room
pub inserted-shifted :
    (b : Filled) (i v : ℕ) → i ≤ b.end → b.end < length b.bytes
    → buffer (shifted b.bytes i b.end v) (b.end + 1) ≡ inserted b i v
unfolding inserted
inserted-shifted b i v k r = sym (rw (le-leb i b.end k, lt-ltb b.end (length b.bytes) r))

holds-insert :
    (b : Filled) (pre bs : List ℕ) (i v all : ℕ) → length pre ≡ i → b.end < all → Holds b (pre ++ bs) all
    → Holds (inserted b i v) (pre ++ (v ∷ bs)) all
holds-insert b pre bs i v all p q h =
    let l = b.bytes in
    let e = b.end in
    let n = h.size in
    let w = h.whole in
    let r : e < length l = omega arith in
    let s : e ≡ i + length bs = omega (arith, length-append pre bs) in
    let d = get_or l e 0 in
    let D = drop (suc e) l in
    let parts : l ≡ pre ++ (bs ++ d ∷ D) =
    holds-split b (pre ++ bs) all h ∙ ap (λ (x : List ℕ). (pre ++ bs) ++ x) (drop-cons l e 0 r) ∙ append_assoc pre bs (d ∷ D) in
    let so : shifted l i e v ≡ (pre ++ (v ∷ bs)) ++ D =
    ap (λ (x : List ℕ). shifted x i e v) parts ∙ inserted-blocks pre bs D d v i e (sym p) s ∙ sym (append_assoc pre (v ∷ bs) D) in
    subst (λ (x : Filled). Holds x (pre ++ (v ∷ bs)) all) (inserted-shifted b i v (omega arith) r)
    (split-holds (shifted l i e v) (pre ++ (v ∷ bs)) D (e + 1) all so (omega (arith, length-append pre (v ∷ bs)))
    (length-shifted l i e v (omega arith) r ∙ w))

pub puts : (v : ℕ) {b b' : Filled} {i : ℕ} → b' ≡ inserted b i v → Puts b b' i v
puts v {b} {b'} {i} w all pre bs p h room =
    subst (λ (x : Filled). Holds x (pre ++ (v ∷ bs)) all) (sym w) (holds-insert b pre bs i v all p room h)

-- bytes in front of the last block, which began at i
pub prepends :
    (pre bs : List ℕ) {b : Filled} {i all : ℕ} → length pre ≡ i → Holds b (pre ++ bs) all → (vs : List ℕ) {b' : Filled}
    → b' ≡ prepended b i vs → b.end + length vs ≤ all → Holds b' (pre ++ (vs ++ bs)) all
unfolding prepended
prepends pre bs {b} {i} {all} p h [] w room = subst (λ (x : Filled). Holds x (pre ++ bs) all) (sym w) h
prepends pre bs {b} {i} {all} p h (v ∷ vs) w room =
    let more = prepends pre bs p h vs refl (omega arith) in
    let s = h.size in
    let m = more.size in
    puts v w all pre (vs ++ bs) p more (omega (arith, length-append pre (vs ++ bs), length-append vs bs, length-append pre bs))

pub appends : (bs : List ℕ) {b b' : Filled} → b' ≡ appended b bs → Appends b b' bs
unfolding appended
appends [] {b} {b'} w all pre h room =
    subst (λ (x : Filled). Holds x (pre ++ []) all) (sym w) (subst (λ (x : List ℕ). Holds b x all) (sym (append-nil pre)) h)
appends (v ∷ bs) {b} {b'} w all pre h room =
    let s = h.size in
    let one : Holds (inserted b b.end v) (pre ++ (v ∷ [])) all =
    holds-insert b pre [] b.end v all (sym s) (omega arith) (subst (λ (x : List ℕ). Holds b x all) (sym (append-nil pre)) h) in
    let m = one.size in
    let more = appends bs w all (pre ++ (v ∷ [])) one (omega (arith, length-append pre (v ∷ []))) in
    subst (λ (x : List ℕ). Holds b' x all) (append_assoc pre (v ∷ []) bs) more

-- bytes behind bytes
appended-append : (b : Filled) (bs cs : List ℕ) → appended (appended b bs) cs ≡ appended b (bs ++ cs)
unfolding appended
appended-append b [] cs = refl
appended-append b (v ∷ bs) cs = appended-append (inserted b b.end v) bs cs

pub appended-on :
    (bs cs : List ℕ) (b : Filled) {b₁ b₂ : Filled} → b₁ ≡ appended b bs → b₂ ≡ appended b₁ cs → b₂ ≡ appended b (bs ++ cs)
appended-on bs cs b e f = f ∙ ap (λ (x : Filled). appended x cs) e ∙ appended-append b bs cs

-- ---- two blocks

-- what a reversal from i to m leaves
abbrev pub Reversed : List ℕ → List ℕ → ℕ → ℕ → Type 0
Reversed l l' i m = l' ≡ reversed l i m

reversed-part :
    (l l' p q z : List ℕ) (i m : ℕ) → Reversed l l' i m → l ≡ p ++ (q ++ z) → length p ≡ i → length p + length q ≡ m
    → l' ≡ p ++ (reverse q ++ z)
reversed-part l l' p q z i m r e a b =
    let n : length (p ++ q) ≡ m = length-append p q ∙ b in
    let w : l ≡ (p ++ q) ++ z = e ∙ sym (append_assoc p q z) in
    let f : take i l ≡ p = ap (take i) e ∙ take_at p (q ++ z) i a in
    let s : slice i m l ≡ q = ap (drop i) (ap (take m) w ∙ take_at (p ++ q) z m n) ∙ drop_at p q i a in
    let d : drop m l ≡ z = ap (drop m) w ∙ drop_at (p ++ q) z m n in
    r ∙ rw (f, s, d)

length-rev : (q : List ℕ) → length (reverse q) ≡ length q
length-rev q = length-reverse q

-- two reversed lists, reversed together
rev-rev-append : (a b : List ℕ) → reverse (reverse a ++ reverse b) ≡ b ++ a
rev-rev-append a b = rw (reverse-append (reverse a) (reverse b), reverse-reverse a, reverse-reverse b)

-- what a write to the bytes from i to m leaves, where it reverses them
pub reversed-write :
    (l ys : List ℕ) (i m : ℕ) → ys ≡ reverse (take (m - i) (drop i l)) → i ≤ m → m ≤ length l
    → take i l ++ (ys ++ drop (m - i) (drop i l)) ≡ reversed l i m
reversed-write l ys i m e h k =
    let on : i + (m - i) ≡ m = omega arith in
    let w : take m l ≡ take i l ++ take (m - i) (drop i l) =
    ap (λ (n : ℕ). take n l) (sym on) ∙ take-add i (m - i) l in
    let s : drop i (take m l) ≡ take (m - i) (drop i l) =
    ap (drop i) w ∙ drop_at (take i l) (take (m - i) (drop i l)) i (length-take-le i l (omega arith)) in
    let d : drop (m - i) (drop i l) ≡ drop m l = drop-drop (m - i) i l ∙ ap (λ (n : ℕ). drop n l) on in
    rw (e, s, d)

-- the blocks a and b, of a whole buffer
exchange-blocks :
    (l l₁ l₂ l₃ pre a b D : List ℕ) (i m e : ℕ) → l ≡ pre ++ (a ++ (b ++ D)) → length pre ≡ i → i + length a ≡ m → m + length b ≡ e
    → Reversed l l₁ i m → Reversed l₁ l₂ m e → Reversed l₂ l₃ i e → l₃ ≡ pre ++ (b ++ (a ++ D))
exchange-blocks l l₁ l₂ l₃ pre a b D i m e e₀ p n q r₁ r₂ r₃ =
    let e₁ = reversed-part l l₁ pre a (b ++ D) i m r₁ e₀ p (omega arith) in
    let e₂ = reversed-part l₁ l₂ (pre ++ reverse a) b D m e r₂ (e₁ ∙ sym (append_assoc pre (reverse a) (b ++ D)))
    (omega (arith, length-append pre (reverse a), length-rev a)) (omega (arith, length-append pre (reverse a), length-rev a)) in
    let e₃ = reversed-part l₂ l₃ pre (reverse a ++ reverse b) D i e r₃
    (e₂ ∙ append_assoc pre (reverse a) (reverse b ++ D) ∙ ap (λ (x : List ℕ). pre ++ x) (sym (append_assoc (reverse a) (reverse b) D))) p
    (omega (arith, length-append (reverse a) (reverse b), length-rev a, length-rev b)) in
    e₃ ∙ ap (λ (x : List ℕ). pre ++ (x ++ D)) (rev-rev-append a b) ∙ ap (λ (x : List ℕ). pre ++ x) (append_assoc b a D)

-- the parts of such a buffer
parts :
    (l pre a b D : List ℕ) (i m e : ℕ) → l ≡ pre ++ (a ++ (b ++ D)) → length pre ≡ i → i + length a ≡ m → m + length b ≡ e
    → take i l ++ (slice m e l ++ (slice i m l ++ drop e l)) ≡ pre ++ (b ++ (a ++ D))
parts l pre a b D i m e w p n q =
    let u : l ≡ (pre ++ a) ++ (b ++ D) = w ∙ sym (append_assoc pre a (b ++ D)) in
    let v : l ≡ ((pre ++ a) ++ b) ++ D = u ∙ sym (append_assoc (pre ++ a) b D) in
    let s : length (pre ++ a) ≡ m = omega (arith, length-append pre a) in
    let z : length ((pre ++ a) ++ b) ≡ e = omega (arith, s, length-append (pre ++ a) b) in
    let f : take i l ≡ pre = ap (take i) w ∙ take_at pre (a ++ (b ++ D)) i p in
    let g : slice i m l ≡ a = ap (drop i) (ap (take m) u ∙ take_at (pre ++ a) (b ++ D) m s) ∙ drop_at pre a i p in
    let h : slice m e l ≡ b = ap (drop m) (ap (take e) v ∙ take_at ((pre ++ a) ++ b) D e z) ∙ drop_at (pre ++ a) b m s in
    let d : drop e l ≡ D = ap (drop e) v ∙ drop_at ((pre ++ a) ++ b) D e z in
    rw (f, g, h, d)

-- every buffer is of this kind
part : (l : List ℕ) (i m : ℕ) → i ≤ m → drop i l ≡ take (m - i) (drop i l) ++ drop m l
part l i m h =
    let on : i + (m - i) ≡ m = omega arith in
    sym (take-append-drop (m - i) (drop i l))
    ∙ ap (λ (x : List ℕ). take (m - i) (drop i l) ++ x) (drop-drop (m - i) i l ∙ ap (λ (n : ℕ). drop n l) on)

whole : (l : List ℕ) (i m e : ℕ) → i ≤ m → m ≤ e → l ≡ take i l ++ (take (m - i) (drop i l) ++ (take (e - m) (drop m l) ++ drop e l))
whole l i m e p q =
    sym (take-append-drop i l)
    ∙ ap (λ (x : List ℕ). take i l ++ x) (part l i m p ∙ ap (λ (x : List ℕ). take (m - i) (drop i l) ++ x) (part l m e q))

pub exchange-reversals :
    (l l₁ l₂ l₃ : List ℕ) (i m e : ℕ) → i ≤ m → m ≤ e → e ≤ length l → Reversed l l₁ i m → Reversed l₁ l₂ m e → Reversed l₂ l₃ i e
    → l₃ ≡ exchanged l i m e
unfolding exchanged
exchange-reversals l l₁ l₂ l₃ i m e p q r r₁ r₂ r₃ =
    let pre = take i l in
    let a = take (m - i) (drop i l) in
    let b = take (e - m) (drop m l) in
    let D = drop e l in
    let w : l ≡ pre ++ (a ++ (b ++ D)) = whole l i m e p q in
    let x : length pre ≡ i = length-take-le i l (omega arith) in
    let y : i + length a ≡ m = omega (arith, length-take-le (m - i) (drop i l) (omega (arith, length-drop i l))) in
    let z : m + length b ≡ e = omega (arith, length-take-le (e - m) (drop m l) (omega (arith, length-drop m l))) in
    exchange-blocks l l₁ l₂ l₃ pre a b D i m e w x y z r₁ r₂ r₃
    ∙ sym (rw (le-leb i m p, le-leb m e q, le-leb e (length l) r) (parts l pre a b D i m e w x y z))

-- places that are in no order
pub exchange-none : (l : List ℕ) (i m e : ℕ) → (m < i) ⊎ ((e < m) ⊎ (length l < e)) → l ≡ exchanged l i m e
unfolding exchanged
exchange-none l i m e o =
    sym (⊎_elim (λ x. rw (lt-leb i m x))
    (λ y. ⊎_elim (λ x. rw (lt-leb m e x, B.and-false (leb i m)))
    (λ x. rw (lt-leb e (length l) x, B.and-false (leb m e), B.and-false (leb i m))) y) o)

pub exchanges :
    {b b' : Filled} {i m : ℕ} → b' ≡ buffer (exchanged b.bytes i m b.end) b.end → Exchanges b b' i m
unfolding exchanged
exchanges {b} {b'} {i} {m} w all pre x y p n h =
    let s = h.size in
    let l = b.bytes in
    let e = b.end in
    let D = drop e l in
    let u = h.whole in
    let k = holds-within b (pre ++ (x ++ y)) all h in
    let whole : l ≡ pre ++ (x ++ (y ++ D)) =
    holds-split b (pre ++ (x ++ y)) all h ∙ append_assoc pre (x ++ y) D ∙ ap (λ (z : List ℕ). pre ++ z) (append_assoc x y D) in
    let size : e ≡ m + length y = omega (arith, length-append pre (x ++ y), length-append x y) in
    let so : exchanged l i m e ≡ (pre ++ (y ++ x)) ++ D =
    rw (le-leb i m (omega arith), le-leb m e (omega arith), le-leb e (length l) (omega arith))
    (parts l pre x y D i m e whole p (omega arith) (sym size)
    ∙ ap (λ (z : List ℕ). pre ++ z) (sym (append_assoc y x D)) ∙ sym (append_assoc pre (y ++ x) D)) in
    let q = length-append pre (y ++ x) in
    let r = length-append y x in
    let t : length (exchanged l i m e) ≡ all =
    omega (arith, ap length so, ap length whole, length-append (pre ++ (y ++ x)) D, length-append pre (x ++ (y ++ D)), length-append x (y ++ D), length-append y D) in
    subst (λ (z : Filled). Holds z (pre ++ (y ++ x)) all) (sym w)
    (split-holds (exchanged l i m e) (pre ++ (y ++ x)) D e all so (omega arith) t)

pub ruleset exchanging = (exchange-none, exchange-reversals)

pub ruleset reversing = (reversed-write)
