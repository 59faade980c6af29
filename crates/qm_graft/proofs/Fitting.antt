-- Nodes of the grafted tree that stand for nodes within 2 ^ 62 operations.
use Rattle.std.proofs.Common.{◌≡◌, ◌<◌, ◌≤◌, ◌+◌, ◌-◌, ◌*◌, ◌^◌, ℕ, suc, false, nat_lt, arith, ap, sym, ◌∙◌, ⊎_elim, le_refl, pow_mono}
use Rattle.std.specs.Prelude.{nat_le}
use Rattle.std.proofs.lemmas.Bool.{cases_lt, lt-ltb, le-ltb, le-leb, lt-leb}
use Rattle.std.proofs.Math.Nat.{pow-suc}
use Rattle.std.proofs.lemmas.Nat.{pow-add, pow_pos, mul-le}
use Rattle.qm_model.specs.Trees.{Node}
use Rattle.qm_model.proofs.MmbFamily.{log_least, log_is}
use Rattle.qm_graft.specs.Grafting.{grafting, fits}

-- there is room below a chunk's node
pub grafting-some : (size : ℕ) → 32 ≤ size → 0 < grafting size
grafting-some size least = let high = log_least (8 * size) 3 (omega (arith, least)) (omega (arith, least)) in omega (arith, high)

-- a chunk has as many bits as its node has leaves
pub grafting-span : (size e : ℕ) → size ≡ 2 ^ e → 2 ^ grafting size ≡ 8 * size
grafting-span size e is =
    let whole : 8 * size ≡ 2 ^ (e + 3) = omega (arith, pow-add 2 e 3, is) in
    let wide = pow-suc 2 (e + 3) in
    let some = pow_pos (e + 3) in
    ap (λ k. 2 ^ k) (log_is (8 * size) (e + 3) (omega (arith, whole)) (omega (arith, whole, wide, some))) ∙ sym whole

-- 2 ^ 62, by a power that divides it
parted : (high : ℕ) → high ≤ 62 → 2 ^ (62 - high) * 2 ^ high ≡ 2 ^ 62
parted high low = let sum : 62 - high + high ≡ 62 = omega arith in sym (pow-add 2 (62 - high) high) ∙ ap (λ n. 2 ^ n) sum

pub fits-low : (g high : ℕ) (x : Node) → high ≡ g + x.height → high ≤ 62 → nat_lt x.index (2 ^ (62 - high)) ≡ fits g x
fits-low g high x is low =
    let at : 2 ^ high ≡ 2 ^ (x.height + g) = let sum : high ≡ x.height + g = omega (arith, is) in ap (λ n. 2 ^ n) sum in
    let whole = parted high low in
    ⊎_elim
    (λ (less : x.index < 2 ^ (62 - high)).
    let inside = mul-le (suc x.index) (2 ^ high) (2 ^ (62 - high)) (2 ^ high) (omega (arith, less)) (le_refl (2 ^ high)) in
    lt-ltb x.index (2 ^ (62 - high)) less ∙ sym (ap (λ p. nat_le (suc x.index * p) (2 ^ 62)) (sym at) ∙ le-leb (suc x.index * 2 ^ high) (2 ^ 62) (omega (arith, inside, whole))))
    (λ (more : 2 ^ (62 - high) ≤ x.index).
    let outside = mul-le (2 ^ (62 - high)) (2 ^ high) x.index (2 ^ high) more (le_refl (2 ^ high)) in
    let some = pow_pos high in
    le-ltb x.index (2 ^ (62 - high)) more ∙ sym (ap (λ p. nat_le (suc x.index * p) (2 ^ 62)) (sym at) ∙ lt-leb (suc x.index * 2 ^ high) (2 ^ 62) (omega (arith, outside, whole, some))))
    (cases_lt x.index (2 ^ (62 - high)))

pub fits-high : (g high : ℕ) (x : Node) → high ≡ g + x.height → 62 < high → false ≡ fits g x
fits-high g high x is above =
    let sum : 63 ≤ x.height + g = omega (arith, is, above) in
    let wide : 2 ^ 63 ≤ 2 ^ (x.height + g) = pow_mono sum in
    sym (lt-leb (suc x.index * 2 ^ (x.height + g)) (2 ^ 62) (omega (arith, wide)))

-- a chunk within 2 ^ 62 operations has a lower number
pub chunk-low : (size e c : ℕ) → size ≡ 2 ^ e → suc c * (8 * size) ≤ 2 ^ 62 → c < 2 ^ 62
chunk-low size e c is within =
    let some = pow_pos e in
    let least = mul-le (suc c) 1 (suc c) (8 * size) (le_refl (suc c)) (omega (arith, is, some)) in
    omega (arith, least, within)
