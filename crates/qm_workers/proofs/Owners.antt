-- Whose partition is whose, and what becomes of a crew to which an operation is given.
use Rattle.std.proofs.Common.{◌≡◌, ◌⊎◌, inl, inr, ℕ, suc, ◌+◌, ◌*◌, ◌<◌, ◌≤◌, Bool, true, false, ◌&&◌, List, length, set, get_or, get_or-set_same, get_or-set_other, length-set, refl, ap, sym, ◌∙◌, subst, Option, Some, None, arith}
use Rattle.std.specs.Prelude.{nat_le, nat_lt, IfSome, if◌then◌else◌}
use Rattle.std.proofs.Math.Nat.{mul-le-mul_right, div-mul-le_self, mul-div_cancel_left}
use Rattle.std.proofs.lemmas.Nat.{le-div}
use Rattle.std.proofs.lemmas.Bool.{cases_eq, leb-true, ltb-true, ltb-false}
use Rattle.std.proofs.lemmas.List.{get_or_default}
use Rattle.qm_model.specs.Operations.{Bytes, Operation}
use Rattle.qm_operations.specs.Parts.{key_of, is_update}
use Rattle.qm_index.specs.Partitioned.{partition_of}
use Rattle.qm_routed.specs.Routed.{begin_of, has_partition}
use Rattle.qm_workers.specs.Working.{Work, with_last}
use Rattle.qm_workers.specs.Sharing.{given, IsRouted}

-- no product of such numbers is large
pub product-small : (a b : ℕ) → a ≤ 65536 → b ≤ 65536 → a * b ≤ 4294967296
product-small a b low few = let one : a * b ≤ 65536 * b = mul-le-mul_right b low in omega (arith, one, few)

pub begins-later : (partitions workers v w : ℕ) → 0 < workers → v ≤ w → begin_of partitions workers v ≤ begin_of partitions workers w
begins-later partitions workers v w some low =
    let whole = div-mul-le_self (v * partitions) workers in
    let more : v * partitions ≤ w * partitions = mul-le-mul_right partitions low in
    le-div (begin_of partitions workers v) (w * partitions) workers some (omega (arith, whole, more))

pub begins-below : (partitions workers w : ℕ) → 0 < workers → w ≤ workers → begin_of partitions workers w ≤ partitions
begins-below partitions workers w some low =
    let all : begin_of partitions workers workers ≡ partitions = mul-div_cancel_left partitions some in
    let before = begins-later partitions workers w workers some low in
    omega (arith, all, before)

both : (a b : Bool) → (a && b) ≡ true → (a ≡ true) × (b ≡ true)
both true true is = (refl, refl)
both true false is = cc
both false b is = cc

pub from-to : (partitions workers w p : ℕ) → has_partition partitions workers w p ≡ true → (begin_of partitions workers w ≤ p) × (p < begin_of partitions workers (suc w))
from-to partitions workers w p has =
    let parts = both (nat_le (begin_of partitions workers w) p) (nat_lt p (begin_of partitions workers (suc w))) has in (
      leb-true (begin_of partitions workers w) p parts.0,
      ltb-true p (begin_of partitions workers (suc w)) parts.1,
    )

-- no two workers have one partition
pub not-other : (partitions workers v w p : ℕ) → 0 < workers → (w ≡ v → ⊥) → has_partition partitions workers v p ≡ true → has_partition partitions workers w p ≡ false
not-other partitions workers v w p some other has = by (has_partition partitions workers w p) refl
  where
    apart : has_partition partitions workers w p ≡ true → (w < v) ⊎ (v < w) → ⊥
    apart too (inl less) =
        let one = from-to partitions workers v p has in
        let two = from-to partitions workers w p too in
        let later = begins-later partitions workers (suc w) v some less in
        omega (arith, one.0, two.1, later)
    apart too (inr less) =
        let one = from-to partitions workers v p has in
        let two = from-to partitions workers w p too in
        let later = begins-later partitions workers (suc v) w some less in
        omega (arith, one.1, two.0, later)

    which : (t : Bool) → nat_lt w v ≡ t → (w < v) ⊎ (v < w)
    which true is = inl (ltb-true w v is)
    which false is = inr (let low = ltb-false w v is in omega (arith, low, other))

    by : (t : Bool) → has_partition partitions workers w p ≡ t → has_partition partitions workers w p ≡ false
    by true is = absurd (apart is (which (nat_lt w v) refl))
    by false is = is

module _ {W : Type 0} (index_key : Bytes → ℕ) (partitions : ℕ) (view : W → Work) (at : ℕ) (op : Operation) (crew : List W) where
  -- an operation without a key is nobody's
  pub routed-none : key_of op ≡ None → IsRouted index_key partitions view at op crew crew
  routed-none none = record {
    long = refl;
    owned = subst (λ o. IfSome o (λ key. partition_of (index_key key) < partitions)) (sym none) tt;
    each = λ w d below. sym (ap (λ o. given index_key partitions (length crew) w at o (is_update op) (view (get_or crew w d))) none);
  }

  -- another is given to the worker that has its partition
  pub routed-one : (key : Bytes) (owner : ℕ) (item new : W) → 0 < length crew → key_of op ≡ Some key → partition_of (index_key key) < partitions → owner < length crew
      → has_partition partitions (length crew) owner (partition_of (index_key key)) ≡ true
      → view new ≡ with_last (record { at = at; key = key; is_update = is_update op }) (view (get_or crew owner item))
      → IsRouted index_key partitions view at op crew (set crew owner new)
  routed-one key owner item new some is below there has told = record {
    long = length-set crew owner new;
    owned = subst (λ o. IfSome o (λ key. partition_of (index_key key) < partitions)) (sym is) below;
    each = λ w d inside. by w d inside (cases_eq w owner) ∙ sym (ap (λ o. given index_key partitions (length crew) w at o (is_update op) (view (get_or crew w d))) is);
  }
    where
      more : Work → Work
      more work = with_last (record { at = at; key = key; is_update = is_update op }) work

      by : (w : ℕ) (d : W) → w < length crew → (w ≡ owner) ⊎ (w ≡ owner → ⊥) → view (get_or (set crew owner new) w d) ≡ given index_key partitions (length crew) w at (Some key) (is_update op) (view (get_or crew w d))
      by w d inside (inl same) =
          subst (λ n. view (get_or (set crew owner new) n d) ≡ given index_key partitions (length crew) n at (Some key) (is_update op) (view (get_or crew n d))) (sym same)
          (ap view (get_or-set_same crew owner new d there) ∙ told ∙ ap (λ x. more (view x)) (get_or_default crew owner item d there)
          ∙ sym (ap (λ t. if t then more (view (get_or crew owner d)) else view (get_or crew owner d)) has))
      by w d inside (inr other) =
          ap view (get_or-set_other crew owner w new d other)
          ∙ sym (ap (λ t. if t then more (view (get_or crew w d)) else view (get_or crew w d)) (not-other partitions (length crew) owner w (partition_of (index_key key)) some other has))
