-- Each of so many partitions is of one worker.
use Rattle.std.proofs.Common.{◌≡◌, ℕ, zero, suc, ◌+◌, ◌-◌, ◌*◌, ◌<◌, ◌≤◌, Bool, true, false, refl, sym, ap, ap₂, ◌∙◌, subst, arith, ◌&&◌}
use Rattle.std.specs.Prelude.{nat_le, nat_lt}
use Rattle.std.proofs.Math.Nat.{mul-le-mul_right, mul_comm, suc-mul, div-mul-le_self, div-lt_iff_lt-mul, lt-div-mul-add, mul-div_cancel_left}
use Rattle.std.proofs.lemmas.Nat.{le-div}
use Rattle.std.proofs.lemmas.Bool.{leb-true, leb-false, le-leb, lt-ltb, ltb-true, ltb-false, le-ltb}
use Rattle.qm_routed.specs.Routed.{begin_of, has_partition, tick, owners, owner_of}

begins-later : (partitions workers w : ℕ) → 0 < workers → begin_of partitions workers w ≤ begin_of partitions workers (suc w)
begins-later partitions workers w some =
    let whole = div-mul-le_self (w * partitions) workers in
    let more : w * partitions ≤ suc w * partitions = mul-le-mul_right partitions (omega arith) in
    le-div (begin_of partitions workers w) (suc w * partitions) workers some (omega (arith, whole, more))

-- as many as there are if the partition is below where the next one begins: one, else none
pub owners-are : (partitions workers p n : ℕ) → 0 < workers → owners partitions workers p n ≡ tick (nat_lt p (begin_of partitions workers n))
owners-are partitions workers p zero some = sym (ap tick (ap (nat_lt p) (none workers some) ∙ le-ltb p 0 (omega arith)))
  where
    none : (workers : ℕ) → 0 < workers → begin_of partitions workers 0 ≡ 0
    none workers some = let l = div-mul-le_self (0 * partitions) workers in by (begin_of partitions workers 0) refl l
      where
        by : (b : ℕ) → begin_of partitions workers 0 ≡ b → begin_of partitions workers 0 * workers ≤ 0 * partitions → begin_of partitions workers 0 ≡ 0
        by zero is l = is
        by (suc b) is l =
            let one : suc b * workers ≤ 0 * partitions = subst (λ (x : ℕ). x * workers ≤ 0 * partitions) is l in
            let more : 1 * workers ≤ suc b * workers = mul-le-mul_right workers (omega arith) in
            absurd (omega (arith, one, more, some))
owners-are partitions workers p (suc n) some =
    by (nat_lt p (begin_of partitions workers n)) refl (nat_le (begin_of partitions workers n) p) refl (nat_lt p (begin_of partitions workers (suc n))) refl (owners-are partitions workers p n some) (begins-later partitions workers n some)
  where
    from : ℕ
    from = begin_of partitions workers n

    to : ℕ
    to = begin_of partitions workers (suc n)

    by : (a : Bool) → nat_lt p from ≡ a → (b : Bool) → nat_le from p ≡ b → (c : Bool) → nat_lt p to ≡ c → owners partitions workers p n ≡ tick (nat_lt p from) → from ≤ to
        → owners partitions workers p n + tick (nat_le from p && nat_lt p to) ≡ tick (nat_lt p to)
    by true isa true isb c isc later up = let x = ltb-true p from isa in let y = leb-true from p isb in absurd (omega (arith, x, y))
    by true isa false isb true isc later up = let l = later ∙ ap tick isa in let m = ap₂ (λ x y. tick (x && y)) isb isc in let n : tick (nat_lt p to) ≡ 1 = ap tick isc in omega (arith, l, m, n)
    by true isa false isb false isc later up = let x = ltb-true p from isa in let y = ltb-false p to isc in absurd (omega (arith, x, y, up))
    by false isa true isb c isc later up = let l = later ∙ ap tick isa in let m = ap (λ x. tick (x && nat_lt p to)) isb in omega (arith, l, m)
    by false isa false isb c isc later up = let x = ltb-false p from isa in let y = leb-false from p isb in absurd (omega (arith, x, y))

-- each partition is of one worker
pub one-owner : (partitions workers p : ℕ) → 0 < workers → p < partitions → owners partitions workers p workers ≡ 1
one-owner partitions workers p some below =
    let all : begin_of partitions workers workers ≡ partitions = mul-div_cancel_left partitions some in
    owners-are partitions workers p workers some ∙ ap tick (ap (nat_lt p) all ∙ lt-ltb p partitions below)

-- of the worker that is told by its number
pub owner-has : (partitions workers p : ℕ) → 0 < workers → p < partitions
    → (owner_of partitions workers p < workers) × (has_partition partitions workers (owner_of partitions workers p) p ≡ true)
owner-has partitions workers p some below =
    let n : ℕ = suc p * workers - 1 in
    let w : ℕ = owner_of partitions workers p in
    let parts : 0 < partitions = omega (arith, below) in
    let least : 1 * workers ≤ suc p * workers = mul-le-mul_right workers (omega arith) in
    let most : suc p * workers ≤ partitions * workers = mul-le-mul_right workers (omega (arith, below)) in
    let turned : partitions * workers ≡ workers * partitions = mul_comm partitions workers in
    let low : w * partitions ≤ n = div-mul-le_self n partitions in
    let high : n < w * partitions + partitions = lt-div-mul-add parts in
    let next : suc w * partitions ≡ w * partitions + partitions = suc-mul w partitions in
    let begins : begin_of partitions workers w < suc p = (div-lt_iff_lt-mul some).1 (omega (arith, least, some, low)) in
    let ends : suc p ≤ begin_of partitions workers (suc w) = le-div (suc p) (suc w * partitions) workers some (omega (arith, least, some, high, next)) in (
      (div-lt_iff_lt-mul parts).1 (omega (arith, least, some, most, turned)),
      ap₂ (λ x y. x && y) (le-leb (begin_of partitions workers w) p (omega (arith, begins))) (lt-ltb p (begin_of partitions workers (suc w)) (omega (arith, ends))),
    )
