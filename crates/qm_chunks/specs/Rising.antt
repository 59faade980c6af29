-- In both families more chunks need no smaller size to go, and no node over a chunk waits unless a threshold tells for how long.
use Rattle.std.proofs.Common.{◌≡◌, ◌∙◌, ◌+◌, ◌-◌, ◌*◌, ◌/◌, ◌^◌, ◌<◌, ◌≤◌, ℕ, suc, None, Some, arith, ap, sym, subst, le_refl}
use Rattle.std.specs.Option.{option_map_or}
use Rattle.std.proofs.lemmas.Nat.{mul-le}
use Rattle.qm_model.specs.Mmr.{mmr}
use Rattle.qm_model.specs.Mmb.{mmb}
use Rattle.qm_model.specs.Grafted.{chunk_node, needed_size, pair_absorption_threshold}
use Rattle.qm_model.proofs.Boundaries.{quotient-rises}
use Rattle.qm_model.proofs.GraftedLemmas.{mmr_no_threshold, mmb_threshold}

mmr_needs : (g c : ℕ) → needed_size mmr g (suc c) ≡ suc c * 2 ^ g
mmr_needs g c = ap (λ o. option_map_or (λ n. n) o (mmr.birth (chunk_node g (suc c - 1)))) (mmr_no_threshold g (suc c)) ∙ ap (λ j. suc j * 2 ^ g) (omega arith)

mmb_needs : (g c : ℕ) → 0 < g → needed_size mmb g (suc c) ≡ suc (c / 2) * 2 ^ suc g + 2 ^ g - 1
mmb_needs g c some = ap (λ o. option_map_or (λ n. n) o (mmb.birth (chunk_node g (suc c - 1)))) (mmb_threshold g c some)

pub mmr_rising : (g few more : ℕ) → 0 < g → few ≤ more → needed_size mmr g (suc few) ≤ needed_size mmr g (suc more)
mmr_rising g few more some low =
    let up = mul-le (suc few) (2 ^ g) (suc more) (2 ^ g) (omega (arith, low)) (le_refl (2 ^ g)) in
    subst (λ n. n ≤ needed_size mmr g (suc more)) (sym (mmr_needs g few)) (subst (λ n. suc few * 2 ^ g ≤ n) (sym (mmr_needs g more)) up)

pub mmb_rising : (g few more : ℕ) → 0 < g → few ≤ more → needed_size mmb g (suc few) ≤ needed_size mmb g (suc more)
mmb_rising g few more some low =
    let up = mul-le (suc (few / 2)) (2 ^ suc g) (suc (more / 2)) (2 ^ suc g) (let half = quotient-rises few more 2 (omega arith) low in omega (arith, half)) (le_refl (2 ^ suc g)) in
    let least : suc (few / 2) * 2 ^ suc g + 2 ^ g - 1 ≤ suc (more / 2) * 2 ^ suc g + 2 ^ g - 1 = omega (arith, up) in
    subst (λ n. n ≤ needed_size mmb g (suc more)) (sym (mmb_needs g few some)) (subst (λ n. suc (few / 2) * 2 ^ suc g + 2 ^ g - 1 ≤ n) (sym (mmb_needs g more some)) least)

pub mmr_ready : (g c : ℕ) → 0 < g → pair_absorption_threshold mmr g (suc c) ≡ None → mmr.birth (chunk_node g c) ≤ suc c * 2 ^ g
mmr_ready g c some none = le_refl (suc c * 2 ^ g)

some_none : {A : Type 0} (x : A) → Some x ≡ None → ⊥
some_none x is = absurd (cc is)

pub mmb_ready : (g c : ℕ) → 0 < g → pair_absorption_threshold mmb g (suc c) ≡ None → mmb.birth (chunk_node g c) ≤ suc c * 2 ^ g
mmb_ready g c some none = absurd (some_none (suc (c / 2) * 2 ^ suc g + 2 ^ g - 1) (sym (mmb_threshold g c some) ∙ none))
