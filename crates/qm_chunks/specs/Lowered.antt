-- In mountain ranges, if a node over chunks is born, the one that stands for it in the grafted tree is born; and the other way round.
use Rattle.std.proofs.Common.{◌≡◌, ◌*◌, ◌/◌, ◌^◌, ◌+◌, ◌-◌, ◌<◌, ◌≤◌, ℕ, suc, le_refl, arith, ap, sym, ◌∙◌, subst}
use Rattle.std.specs.Option.{option_map_or}
use Rattle.std.proofs.Math.Nat.{mul_assoc}
use Rattle.std.proofs.lemmas.Nat.{pow-add, pow_pos, mul-le}
use Rattle.qm_model.specs.Trees.{Node, Shape}
use Rattle.qm_model.specs.Mmr.{mmr}
use Rattle.qm_model.specs.Grafted.{chunk_node, raised, grafted_chunks, needed_size}
use Rattle.qm_model.proofs.GraftedLemmas.{mmr_never_pending, mmr_no_threshold}
use Rattle.qm_model.proofs.RangeProving.{quotient_most}

pub mmr_lowered_born : (g n : ℕ) (x : Node) → 0 < g → Shape.birth mmr (raised g x) ≤ n → Shape.birth mmr x ≤ grafted_chunks mmr g n
mmr_lowered_born g n x some born =
    let parts = pow-add 2 x.height g in
    let whole : suc x.index * 2 ^ x.height * 2 ^ g ≡ suc x.index * 2 ^ (x.height + g) = mul_assoc (suc x.index) (2 ^ x.height) (2 ^ g) ∙ ap (λ p. suc x.index * p) (sym parts) in
    subst (λ o. suc x.index * 2 ^ x.height ≤ option_map_or (λ c. c) o (n / 2 ^ g)) (sym (mmr_never_pending g n))
    (quotient_most n (2 ^ g) (suc x.index * 2 ^ x.height) (pow_pos g) (omega (arith, whole, born)))

pub mmr_absorbed : (g n c : ℕ) (x : Node) → 0 < g → 0 < c → needed_size mmr g c ≤ n → Shape.birth mmr x ≤ c → Shape.birth mmr (raised g x) ≤ n
mmr_absorbed g n c x some more needed born =
    let last : suc (c - 1) ≡ c = omega (arith, more) in
    let end : c * 2 ^ g ≤ n = subst (λ k. k * 2 ^ g ≤ n) last (subst (λ o. option_map_or (λ m. m) o (Shape.birth mmr (chunk_node g (c - 1))) ≤ n) (mmr_no_threshold g c) needed) in
    let whole : suc x.index * 2 ^ x.height * 2 ^ g ≡ suc x.index * 2 ^ (x.height + g) = mul_assoc (suc x.index) (2 ^ x.height) (2 ^ g) ∙ ap (λ p. suc x.index * p) (sym (pow-add 2 x.height g)) in
    let most = mul-le (suc x.index * 2 ^ x.height) (2 ^ g) c (2 ^ g) born (le_refl (2 ^ g)) in
    omega (arith, whole, most, end)
