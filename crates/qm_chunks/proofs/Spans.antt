-- Chunks within 2 ^ 62 locations.
use Rattle.std.proofs.Common.{◌≡◌, ℕ, suc, ◌+◌, ◌-◌, ◌*◌, ◌/◌, ◌^◌, ◌<◌, ◌≤◌, arith, ap, sym, ◌∙◌, ⊎_elim, le_refl, pow_mono, subst}
use Rattle.std.proofs.Math.Nat.{pow-suc}
use Rattle.std.proofs.lemmas.Bool.{cases_lt}
use Rattle.std.proofs.lemmas.Nat.{pow-add, pow_pos, div-add-mod', mul-le}
use Rattle.qm_model.specs.Trees.{Node, end_of}
use Rattle.qm_model.specs.Grafted.{lowered}

-- a factor that is not 0 may be left out
pub without_factor : (a b w : ℕ) → 0 < w → a * w ≤ b * w → a ≤ b
without_factor a b w some le = ⊎_elim
    (λ (more : b < a). let far = mul-le (suc b) w a w (omega arith) (le_refl w) in absurd (omega arith))
    (λ (most : a ≤ b). most)
    (cases_lt b a)

-- half of some chunks, rounded up
halved : (c w : ℕ) → 0 < c → c ≤ w * 2 → suc ((c - 1) / 2) ≤ w
halved c w some within = omega arith

-- the node over the last of some chunks and its neighbour ends within 2 ^ 62 locations if they do
pub pair_within : (g c : ℕ) → g < 62 → 0 < c → c * 2 ^ g ≤ 2 ^ 62 → suc ((c - 1) / 2) * 2 ^ (g + 1) ≤ 2 ^ 62
pair_within g c low some within = subst (λ k. suc ((c - 1) / 2) * 2 ^ k ≤ 2 ^ 62) (next g)
    (subst (λ n. suc ((c - 1) / 2) * 2 ^ suc g ≤ n) (sym whole)
    (mul-le (suc ((c - 1) / 2)) (2 ^ suc g) (2 ^ (61 - g)) (2 ^ suc g) (halved c (2 ^ (61 - g)) some fewer) (le_refl (2 ^ suc g))))
  where
    next : (k : ℕ) → suc k ≡ k + 1
    next k = omega arith

    split : (k : ℕ) → k < 62 → 62 ≡ 61 - k + suc k
    split k less = omega arith

    whole : 2 ^ 62 ≡ 2 ^ (61 - g) * 2 ^ suc g
    whole = ap (λ n. 2 ^ n) (split g low) ∙ pow-add 2 (61 - g) (suc g)

    twice : (w p : ℕ) → w * (p * 2) ≡ w * 2 * p
    twice w p = omega arith

    fewer : c ≤ 2 ^ (61 - g) * 2
    fewer = without_factor c (2 ^ (61 - g) * 2) (2 ^ g) (pow_pos g) (subst (λ n. c * 2 ^ g ≤ n) (whole ∙ ap (λ (w : ℕ). 2 ^ (61 - g) * w) (pow-suc 2 g) ∙ twice (2 ^ (61 - g)) (2 ^ g)) within)

-- the chunks up to a location's end at or below it
pub chunks_within : (g n : ℕ) → n / 2 ^ g * 2 ^ g ≤ n
chunks_within g n = let split = div-add-mod' n (2 ^ g) in omega arith

-- Powers of two.

pub power_most : (k n : ℕ) → 2 ^ k ≤ 2 ^ n → k ≤ n
power_most k n low = ⊎_elim
    (λ (past : n < k). let far : 2 ^ suc n ≤ 2 ^ k = pow_mono (omega arith) in let wide = pow-suc 2 n in let some = pow_pos n in absurd (omega arith))
    (λ (most : k ≤ n). most)
    (cases_lt n k)

-- between a power of two and the next there is no other
pub power_is : (k e : ℕ) → 2 ^ k ≤ 2 ^ e → 2 ^ e < 2 ^ suc k → k ≡ e
power_is k e low high =
    let from = power_most k e low in
    ⊎_elim
    (λ (past : k < e). let far : 2 ^ suc k ≤ 2 ^ e = pow_mono (omega arith) in absurd (omega arith))
    (λ (most : e ≤ k). omega (arith, from, most))
    (cases_lt k e)

-- Nodes within so many leaves.

-- a node that is lowered ends no later
pub lowered_within : (g : ℕ) (node : Node) → end_of node ≤ 2 ^ 62 → end_of (lowered g node) ≤ 2 ^ 62
lowered_within g node within =
    let fewer : 2 ^ (node.height - g) ≤ 2 ^ node.height = pow_mono (omega arith) in
    let most = mul-le (suc node.index) (2 ^ (node.height - g)) (suc node.index) (2 ^ node.height) (le_refl (suc node.index)) fewer in
    omega arith

-- a node is not higher than the leaves that there may be
pub height_within : (height index : ℕ) → suc index * 2 ^ height ≤ 2 ^ 62 → height ≤ 62
height_within height index within =
    let one = mul-le 1 (2 ^ height) (suc index) (2 ^ height) (omega arith) (le_refl (2 ^ height)) in
    power_most height 62 (omega arith)
