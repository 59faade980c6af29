-- Draws in a row.
use Rattle.std.proofs.Common.{◌≡◌, ℕ, ◌+◌, ◌*◌, ◌<◌, zero, suc, List, length, get_or, refl, sym, ap, ◌∙◌, arith}
use Rattle.std.proofs.lemmas.List.{ext_get_or}
use Rattle.std.proofs.lemmas.List.FromFn.{length-map-range_with_len, get_or-map-range_with_len}
use Rattle.qm_fill.specs.Draws.{draw, draws, next_draw}

pub draw_more : (x n : ℕ) → draw x (n + 1) ≡ next_draw (draw x n)
unfolding draw
draw_more x n = let e : n + 1 ≡ suc n = omega arith in ap (draw x) e

pub no_draw : (x : ℕ) → draw x 0 ≡ x
unfolding draw
no_draw x = refl

draw-add : (x m n : ℕ) → draw x (m + n) ≡ draw (draw x m) n
unfolding draw
draw-add x m zero = let e : m + 0 ≡ m = omega arith in ap (draw x) e
draw-add x m (suc n) = let e : m + suc n ≡ suc (m + n) = omega arith in ap (draw x) e ∙ ap next_draw (draw-add x m n)

-- a round's last draw
pub draw-round : (x given : ℕ) → draw (draw x (8 * given)) 8 ≡ draw x (8 * (given + 1))
draw-round x given = let e : 8 * given + 8 ≡ 8 * (given + 1) = omega arith in sym (draw-add x (8 * given) 8) ∙ ap (draw x) e

pub last-draws : (x : ℕ) → get_or (draws x 8) 7 0 ≡ draw x 8
last-draws x = refl

-- numbers, each of which is the draw whose number stands behind its index
pub drawn_by_all : (x n : ℕ) (xs : List ℕ) → length xs ≡ n → ((k : ℕ) → k < n → get_or xs k 0 ≡ draw x (k + 1)) → xs ≡ draws x n
drawn_by_all x n xs long h =
    ext_get_or 0 xs (draws x n) (long ∙ sym (length-map-range_with_len (draw x) 1 n)) (λ k lt. h k (omega arith) ∙ sym (get_or-map-range_with_len (draw x) 1 n k (k + 1) 0 (omega arith) (omega arith)))
