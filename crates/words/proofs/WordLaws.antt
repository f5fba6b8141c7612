-- Words at a place: what stands there and behind it, from what the words from the place on are. Assumes nothing.
use mathlib.Core.Path.{◌≡◌, sym, ap, ◌∙◌}
use mathlib.Core.List.{List, ◌∷◌}
use Prim.Native.Nat.{ℕ, ◌+◌, ◌<◌}
use native.Mathlib.Omega.{arith}
use native.Mathlib.Nat.{add-zero}
use lib.ListN.{length, drop, get_or, length-drop}
use lib.Seq.{get_or-drop, drop-drop}

pub word_at : (t ws : List ℕ) (i j : ℕ) → drop i t ≡ ws → get_or t (i + j) 0 ≡ get_or ws j 0
word_at t ws i j e = sym (get_or-drop i t j 0) ∙ ap (λ (l : List ℕ). get_or l j 0) e

pub word_first : (t ws : List ℕ) (i w : ℕ) → drop i t ≡ w ∷ ws → get_or t i 0 ≡ w
word_first t ws i w e = ap (λ (k : ℕ). get_or t k 0) (sym (add-zero i)) ∙ word_at t (w ∷ ws) i 0 e

pub words-on : (t ws : List ℕ) (i j : ℕ) → drop i t ≡ ws → drop (i + j) t ≡ drop j ws
words-on t ws i j e = sym (drop-drop j i t) ∙ ap (λ (l : List ℕ). drop j l) e

pub word-inside : (t ws : List ℕ) (i w : ℕ) → drop i t ≡ w ∷ ws → i < length t
word-inside t ws i w e = omega (arith, length-drop i t, ap length e)
