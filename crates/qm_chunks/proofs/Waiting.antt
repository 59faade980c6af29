-- How few chunks below a floor wait, and that those which may go are grafted.
use Rattle.std.proofs.Common.{◌≡◌, ℕ, zero, suc, ◌+◌, ◌-◌, ◌*◌, ◌/◌, ◌^◌, ◌<◌, ◌≤◌, Bool, true, false, None, Some, arith, ap, sym, ◌∙◌, subst, ⊎_elim, le_refl}
use Rattle.std.specs.Prelude.{◌==◌, if◌then◌else◌, nat_le}
use Rattle.std.specs.Option.{option_map_or}
use Rattle.std.proofs.Math.Nat.{pow-suc}
use Rattle.std.proofs.lemmas.Bool.{cases_lt}
use Rattle.std.proofs.lemmas.Bool.Decides.{nat_tests}
use Rattle.std.proofs.lemmas.Nat.{pow_pos, mul-le}
use Rattle.qm_model.specs.Trees.{Node, Shape, end_of}
use Rattle.qm_model.specs.Mmr.{mmr}
use Rattle.qm_model.specs.Mmb.{mmb}
use Rattle.qm_model.specs.Grafted.{chunk_node, grafted_chunks, needed_size, prunable_chunks}
use Rattle.qm_model.proofs.Proving.{true_or_false}
use Rattle.qm_model.proofs.RangeProving.{quotient_most}
use Rattle.qm_model.proofs.GraftedLemmas.{mmb_prompt, mmb_inner_born, mmr_no_threshold, mmr_never_pending, mmb_prunable_grafted, prunable_needed}
use Rattle.qm_chunks.proofs.Spans.{chunks_within}

is_at_most : (m n : ℕ) → m ≤ n → nat_le m n ≡ true
is_at_most m n low = grind (arith, nat_tests)

-- chunks wait no longer than their last one's node and its pair do
pub needed_most : (shape : Shape) (g c bound : ℕ) → shape.birth (chunk_node g c) ≤ bound → shape.birth (record { height = suc g; index = c / 2 }) ≤ bound → needed_size shape g (suc c) ≤ bound
needed_most shape g c bound own pair = ⊎_elim (λ (prompt : (shape.birth x == end_of x) ≡ true). by true prompt) (λ (late : (shape.birth x == end_of x) ≡ false). by false late) (true_or_false (shape.birth x == end_of x))
  where
    x : Node
    x = record { height = suc g; index = c / 2 }

    needed : Bool → ℕ
    needed t = option_map_or (λ n. n) (if t then None else Some (shape.birth x)) (shape.birth (chunk_node g (suc c - 1)))

    most : (t : Bool) → needed t ≤ bound
    most true = let same : suc c - 1 ≡ c = omega arith in subst (λ k. shape.birth (chunk_node g k) ≤ bound) (sym same) own
    most false = pair

    by : (t : Bool) → (shape.birth x == end_of x) ≡ t → needed_size shape g (suc c) ≤ bound
    by t is = subst (λ u. needed u ≤ bound) (sym is) (most t)

-- of a family whose nodes are born by when the leaves of a neighbour are there
pub prompt_needed : (shape : Shape) → ((h i : ℕ) → shape.birth (record { height = h; index = i }) ≤ suc (suc i) * 2 ^ h) → (g c : ℕ) → needed_size shape g (suc c) ≤ (c + 4) * 2 ^ g
prompt_needed shape prompt g c =
    let wide = pow-suc 2 g in
    let own = prompt g c in
    let near = mul-le (suc (suc c)) (2 ^ g) (c + 4) (2 ^ g) (omega arith) (le_refl (2 ^ g)) in
    let pair = prompt (suc g) (c / 2) in
    let twice : suc (suc (c / 2)) * 2 ^ suc g ≡ suc (suc (c / 2)) * 2 * 2 ^ g = ap (λ (w : ℕ). suc (suc (c / 2)) * w) wide ∙ omega arith in
    let far = mul-le (suc (suc (c / 2)) * 2) (2 ^ g) (c + 4) (2 ^ g) (omega arith) (le_refl (2 ^ g)) in
    needed_most shape g c ((c + 4) * 2 ^ g) (omega (arith, own, near)) (omega (arith, pair, twice, far))

pub delayed_needed : (g c : ℕ) → needed_size mmb g (suc c) ≤ (c + 3) * 2 ^ g
delayed_needed g c =
    let wide = pow-suc 2 g in
    let own = mmb_prompt g c in
    let near = mul-le (suc (suc c)) (2 ^ g) (c + 3) (2 ^ g) (omega arith) (le_refl (2 ^ g)) in
    let pair = mmb_inner_born g (c / 2) in
    let twice : suc (c / 2) * 2 ^ suc g ≡ suc (c / 2) * 2 * 2 ^ g = ap (λ (w : ℕ). suc (c / 2) * w) wide ∙ omega arith in
    let far = mul-le (suc (c / 2) * 2) (2 ^ g) (c + 2) (2 ^ g) (omega arith) (le_refl (2 ^ g)) in
    needed_most mmb g c ((c + 3) * 2 ^ g) (omega (arith, own, near)) (omega (arith, pair, twice, far))

mountain_size : (g c : ℕ) → needed_size mmr g (suc c) ≡ suc c * 2 ^ g
mountain_size g c =
    let same : suc (suc c - 1) * 2 ^ g ≡ suc c * 2 ^ g = let last : suc (suc c - 1) ≡ suc c = omega arith in ap (λ k. k * 2 ^ g) last in
    ap (λ o. option_map_or (λ n. n) o (mmr.birth (chunk_node g (suc c - 1)))) (mmr_no_threshold g (suc c)) ∙ same

pub mountain_needed : (g c : ℕ) → needed_size mmr g (suc c) ≤ (c + 1) * 2 ^ g
mountain_needed g c = let is = mountain_size g c in omega arith

-- chunks whose size is there may go
pub prunable_least : (shape : Shape) (g n d c : ℕ) → suc c ≤ d → needed_size shape g (suc c) ≤ n → suc c ≤ prunable_chunks shape g n d
prunable_least shape g n zero c low there = absurd (omega arith)
prunable_least shape g n (suc d) c low there = ⊎_elim
    (λ (fewer : c < d). by (nat_le (needed_size shape g (suc d)) n) (prunable_least shape g n d c (omega arith) there))
    (λ (last : d ≤ c).
    let same : d ≡ c = omega arith in
    let yes : nat_le (needed_size shape g (suc d)) n ≡ true = is_at_most (needed_size shape g (suc d)) n (subst (λ k. needed_size shape g (suc k) ≤ n) (sym same) there) in
    subst (λ t. suc c ≤ (if t then suc d else prunable_chunks shape g n d)) (sym yes) low)
    (cases_lt c d)
  where
    by : (t : Bool) → suc c ≤ prunable_chunks shape g n d → suc c ≤ (if t then suc d else prunable_chunks shape g n d)
    by true rest = low
    by false rest = rest

-- so few wait as the size that they need is past their end
pub few_wait : (shape : Shape) (g floor n k : ℕ) → ((c : ℕ) → needed_size shape g (suc c) ≤ (c + suc k) * 2 ^ g) → floor ≤ n → floor / 2 ^ g ≤ prunable_chunks shape g n (floor / 2 ^ g) + k
few_wait shape g floor n k soon order = ⊎_elim
    (λ (more : k < floor / 2 ^ g).
    let c = floor / 2 ^ g - suc k in
    let count : c + suc k ≡ floor / 2 ^ g = omega arith in
    let start : (c + suc k) * 2 ^ g ≡ floor / 2 ^ g * 2 ^ g = ap (λ j. j * 2 ^ g) count in
    let least = prunable_least shape g n (floor / 2 ^ g) c (omega arith) (omega (arith, soon c, start, chunks_within g floor, order)) in
    omega arith)
    (λ (few : floor / 2 ^ g ≤ k). omega arith)
    (cases_lt k (floor / 2 ^ g))

-- Chunks that may go are grafted.

pub delayed_grafted : (g n c : ℕ) → 0 < g → prunable_chunks mmb g n c ≤ grafted_chunks mmb g n
delayed_grafted g n c some = ⊎_elim
    (λ (most : 0 < prunable_chunks mmb g n c). mmb_prunable_grafted g n (prunable_chunks mmb g n c) some most (prunable_needed mmb g n c most))
    (λ (none : prunable_chunks mmb g n c ≤ 0). omega arith)
    (cases_lt 0 (prunable_chunks mmb g n c))

pub mountain_all : (g n : ℕ) → grafted_chunks mmr g n ≡ n / 2 ^ g
mountain_all g n = ap (λ o. option_map_or (λ c. c) o (n / 2 ^ g)) (mmr_never_pending g n)

pub mountain_grafted : (g n c : ℕ) → prunable_chunks mmr g n c ≤ grafted_chunks mmr g n
mountain_grafted g n c = at (prunable_chunks mmr g n c) (prunable_needed mmr g n c)
  where
    at : (p : ℕ) → (0 < p → needed_size mmr g p ≤ n) → p ≤ grafted_chunks mmr g n
    at zero there = omega arith
    at (suc p) there =
        let all = mountain_all g n in
        let low = quotient_most n (2 ^ g) (suc p) (pow_pos g) (omega (arith, mountain_size g p, there (omega arith))) in
        omega arith
