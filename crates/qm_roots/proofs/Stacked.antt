-- Steps over a bitmap, the newest first, one after another.
use Rattle.std.proofs.Common.{◌≡◌, ℕ, zero, suc, ◌<◌, ◌≤◌, List, [], ◌∷◌, length, drop, get_or, arith, ap, sym, subst}
use Rattle.qm_bits.specs.Bitmaps.{Bitmap, bit_count}
use Rattle.qm_overlay.specs.Layers.{Overlay, laid}
use Rattle.qm_roots.specs.Steps.{laid_over, AreOver}

pub one-more : (size : ℕ) (xs : List Overlay) (base : Bitmap) (k : ℕ) (x : Overlay) → k < length xs → x ≡ get_or xs k x → laid_over size (drop k xs) base ≡ laid size x (laid_over size (drop (suc k) xs) base)
one-more size [] base k x lt at = absurd (omega (arith, lt))
one-more size (y ∷ ys) base zero x lt at = ap (λ o. laid size o (laid_over size ys base)) (sym at)
one-more size (y ∷ ys) base (suc k) x lt at = one-more size ys base k x (omega (arith, lt)) at

pub stands-over : (size : ℕ) (xs : List Overlay) (base : Bitmap) (k : ℕ) (x : Overlay) → AreOver size xs base → k < length xs → x ≡ get_or xs k x → bit_count size (laid_over size (drop (suc k) xs) base) ≤ x.count
stands-over size [] base k x over lt at = absurd (omega (arith, lt))
stands-over size (y ∷ ys) base zero x over lt at = subst (λ o. bit_count size (laid_over size ys base) ≤ o.count) (sym at) over.0
stands-over size (y ∷ ys) base (suc k) x over lt at = stands-over size ys base k x over.1 (omega (arith, lt)) at
