-- What a crew has left.
use Rattle.std.proofs.Common.{ℕ, suc, ◌≤◌, List, [], ◌∷◌, arith}
use Rattle.std.specs.Prelude.{sum_by}
use Rattle.std.proofs.lemmas.List.Sums.{sum_by-cons}
use Rattle.qm_crew.specs.Turned.{AreTurned}

-- members that have no more left each have no more left together
pub sum_by-turned : {W : Type 0} (left : W → ℕ) (may : W → W → Type 0) → ((a b : W) → may a b → left b ≤ left a) → (old new : List W) → AreTurned may old new → sum_by left new ≤ sum_by left old
sum_by-turned left may law [] [] t = omega arith
sum_by-turned left may law [] (y ∷ ys) t = let long = t.long in absurd (omega (arith, long))
sum_by-turned left may law (x ∷ xs) [] t = let long = t.long in absurd (omega (arith, long))
sum_by-turned left may law (x ∷ xs) (y ∷ ys) t =
    let long = t.long in
    let first = law x y (t.each 0 x (omega arith)) in
    let rest = sum_by-turned left may law xs ys (record { long = omega (arith, long); each = λ i d below. t.each (suc i) d (omega (arith, below)) }) in
    let old = sum_by-cons left x xs in
    let new = sum_by-cons left y ys in
    omega (arith, first, rest, old, new)
