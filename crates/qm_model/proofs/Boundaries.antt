-- How boundaries rise, and that as many chunks may go as an opening accepts.
use Rattle.std.proofs.Common.{◌≡◌, ℕ, zero, suc, ◌-◌, ◌*◌, ◌/◌, ◌^◌, ◌<◌, ◌≤◌, Bool, true, false, Option, None, Some, arith, sym, subst, refl, ⊎_elim, le_refl}
use Rattle.std.specs.Prelude.{if◌then◌else◌, nat_le, nat_lt}
use Rattle.std.specs.Option.{option_map_or}
use Rattle.std.proofs.Math.Nat.{le_trans}
use Rattle.std.proofs.lemmas.Bool.{cases_lt, ltb-false}
use Rattle.std.proofs.lemmas.Bool.Decides.{nat_tests}
use Rattle.std.proofs.lemmas.Nat.{pow_pos, mul-le, le-div, div-add-mod'}
use Rattle.qm_model.specs.Trees.{Shape}
use Rattle.qm_model.specs.Grafted.{chunk_node, pair_absorption_threshold, needed_size, prunable_chunks, sync_boundary}
use Rattle.qm_model.proofs.GraftedLemmas.{prunable_most, prunable_needed}

is_at_most : (m n : ℕ) → m ≤ n → nat_le m n ≡ true
is_at_most m n low = grind (arith, nat_tests)

-- chunks whose size is there may go
pub prunable_least : (shape : Shape) (g n d c : ℕ) → suc c ≤ d → needed_size shape g (suc c) ≤ n → suc c ≤ prunable_chunks shape g n d
prunable_least shape g n zero c low there = absurd (omega arith)
prunable_least shape g n (suc d) c low there = ⊎_elim
    (λ (fewer : c < d). by (nat_le (needed_size shape g (suc d)) n) (prunable_least shape g n d c (omega arith) there))
    (λ (last : d ≤ c).
    let same : d ≡ c = omega arith in
    let yes : nat_le (needed_size shape g (suc d)) n ≡ true = is_at_most (needed_size shape g (suc d)) n (subst (λ k. needed_size shape g (suc k) ≤ n) (sym same) there) in
    subst (λ t. suc c ≤ (if t then suc d else prunable_chunks shape g n d)) (sym yes) low)
    (cases_lt c d)
  where
    by : (t : Bool) → suc c ≤ prunable_chunks shape g n d → suc c ≤ (if t then suc d else prunable_chunks shape g n d)
    by true rest = low
    by false rest = rest

pub quotient-rises : (a b k : ℕ) → 0 < k → a ≤ b → a / k ≤ b / k
quotient-rises a b k some low = let split = div-add-mod' a k in le-div (a / k) b k some (omega arith)

-- a greater list with no lower floor has no lower boundary
pub boundary-rises : (shape : Shape) (g floor higher n more : ℕ) → floor ≤ higher → n ≤ more → sync_boundary shape g floor n ≤ sync_boundary shape g higher more
boundary-rises shape g floor higher n more low few =
    mul-le (prunable_chunks shape g n (floor / 2 ^ g)) (2 ^ g) (prunable_chunks shape g more (higher / 2 ^ g)) (2 ^ g) (by (prunable_chunks shape g n (floor / 2 ^ g)) refl) (le_refl (2 ^ g))
  where
    by : (c : ℕ) → prunable_chunks shape g n (floor / 2 ^ g) ≡ c → prunable_chunks shape g n (floor / 2 ^ g) ≤ prunable_chunks shape g more (higher / 2 ^ g)
    by zero is = omega (arith, is)
    by (suc c) is =
        let most = prunable_most shape g n (floor / 2 ^ g) in
        let up = quotient-rises floor higher (2 ^ g) (pow_pos g) low in
        let some : 0 < prunable_chunks shape g n (floor / 2 ^ g) = omega (arith, is) in
        let there : needed_size shape g (suc c) ≤ more = le_trans (subst (λ k. needed_size shape g k ≤ n) is (prunable_needed shape g n (floor / 2 ^ g) some)) few in
        let least = prunable_least shape g more (higher / 2 ^ g) c (omega (arith, most, up, is)) there in
        omega (arith, is, least)

-- chunks may go that are below the floor and reach no further than the list, which has as many operations as their threshold, if they
-- have one; if they have none, no node over one of them waits
pub may-go : (shape : Shape) (g floor n c : ℕ) → ((k : ℕ) → pair_absorption_threshold shape g (suc k) ≡ None → shape.birth (chunk_node g k) ≤ suc k * 2 ^ g)
    → c * 2 ^ g ≤ floor → c * 2 ^ g ≤ n → option_map_or (λ least. nat_lt n least) (pair_absorption_threshold shape g c) false ≡ false → c * 2 ^ g ≤ sync_boundary shape g floor n
may-go shape g floor n zero prompt low inside absorbed = omega arith
may-go shape g floor n (suc k) prompt low inside absorbed =
    let below = le-div (suc k) floor (2 ^ g) (pow_pos g) low in
    mul-le (suc k) (2 ^ g) (prunable_chunks shape g n (floor / 2 ^ g)) (2 ^ g) (prunable_least shape g n (floor / 2 ^ g) k below (at (pair_absorption_threshold shape g (suc k)) refl absorbed)) (le_refl (2 ^ g))
  where
    at : (o : Option ℕ) → pair_absorption_threshold shape g (suc k) ≡ o → option_map_or (λ least. nat_lt n least) o false ≡ false → option_map_or (λ m. m) o (shape.birth (chunk_node g (suc k - 1))) ≤ n
    at None is t = let last : suc k - 1 ≡ k = omega arith in subst (λ j. shape.birth (chunk_node g j) ≤ n) (sym last) (le_trans (prompt k is) inside)
    at (Some least) is t = ltb-false n least t
