-- How many nodes stand over replaced leaves: as many on each row as there are leaves, at most, and none on a row that is wider than the tree.
use Rattle.std.proofs.Common.{◌≡◌, ℕ, suc, ◌+◌, ◌*◌, ◌^◌, ◌<◌, ◌≤◌, List, [], ◌∷◌, ◌++◌, length, ap, arith, subst, sym, ⊎_elim, le_refl, pow_mono}
use Rattle.std.specs.Prelude.{min}
use Rattle.std.proofs.Math.Nat.{mul-suc}
use Rattle.std.proofs.lemmas.Bool.{cases_lt}
use Rattle.std.proofs.lemmas.List.{length-append}
use Rattle.std.proofs.lemmas.Nat.{mul-le}

pub one-more : (before after : List ℕ) (x : ℕ) → after ≡ before ++ x ∷ [] → length after ≡ length before + 1
one-more before after x is = omega (arith, ap length is, length-append before (x ∷ []))

-- of so many leaves, on the first row
pub few-start : (leaves nodes : ℕ) → nodes ≡ leaves → (k : ℕ) → nodes ≤ leaves * min (suc k) 1
few-start leaves nodes is k = let one : min (suc k) 1 ≡ 1 = omega arith in subst (λ m. nodes ≤ leaves * m) (sym one) (omega (arith, is))

-- with one more row
pub few-next : (leaves base nodes more row k height : ℕ) → 0 < height → base < 2 ^ suc k → more ≡ nodes + row → row ≤ leaves → (base < 2 ^ height → row ≡ 0) →
    nodes ≤ leaves * min (suc k) height → more ≤ leaves * min (suc k) (height + 1)
few-next leaves base nodes more row k height some high is fits none few = ⊎_elim
    (λ (low : height < suc k).
    let before : min (suc k) height ≡ height = omega arith in
    let after : min (suc k) (height + 1) ≡ suc height = omega arith in
    let least = subst (λ m. nodes ≤ leaves * m) before few in
    subst (λ m. more ≤ leaves * m) (sym after) (omega (arith, least, is, fits, mul-suc leaves height)))
    (λ (over : suc k ≤ height).
    let before : min (suc k) height ≡ suc k = omega arith in
    let after : min (suc k) (height + 1) ≡ suc k = omega arith in
    let wide : 2 ^ suc k ≤ 2 ^ height = pow_mono over in
    let least = subst (λ m. nodes ≤ leaves * m) before few in
    let empty = none (omega (arith, wide, high)) in
    subst (λ m. more ≤ leaves * m) (sym after) (omega (arith, least, is, empty)))
    (cases_lt height (suc k))

-- of all rows
pub few-all : (leaves nodes k height : ℕ) → nodes ≤ leaves * min (suc k) height → nodes ≤ leaves * suc k
few-all leaves nodes k height few = let most = mul-le leaves (min (suc k) height) leaves (suc k) (le_refl leaves) (omega arith) in omega (arith, few, most)
