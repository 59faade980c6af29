-- A crew of which one member after the other changes.
use Rattle.std.proofs.Common.{◌≡◌, ℕ, ◌+◌, ◌<◌, ◌≤◌, List, length, set, get_or, get_or-set_same, get_or-set_other, ap, sym, ◌∙◌, subst, arith, ◌⊎◌, inl, inr}
use Rattle.std.specs.Prelude.{sum_by}
use Rattle.std.proofs.lemmas.Bool.{cases_eq}
use Rattle.std.proofs.lemmas.List.{get_or_default}
use Rattle.std.proofs.lemmas.List.Sums.{sum_by-set}

module _ {W : Type 0} (first crew : List W) (i : ℕ) (old new : W) (there : i < length crew) (is : old ≡ get_or crew i old) (same : (j : ℕ) (d : W) → i ≤ j → get_or crew j d ≡ get_or first j d) where
  -- the one that changes is as it was
  pub was : (d : W) → get_or first i d ≡ old
  was d = sym (same i d (omega arith)) ∙ get_or_default crew i d old there ∙ sym is

  pub told-more : (R : W → W → Type 0) → ((j : ℕ) (d : W) → j < i → R (get_or first j d) (get_or crew j d)) → R old new → (j : ℕ) (d : W) → j < i + 1 → R (get_or first j d) (get_or (set crew i new) j d)
  told-more R before here j d below = by (cases_eq j i)
    where
      by : (j ≡ i) ⊎ (j ≡ i → ⊥) → R (get_or first j d) (get_or (set crew i new) j d)
      by (inl e) = subst (λ n. R (get_or first n d) (get_or (set crew i new) n d)) (sym e) (subst (λ w. R w (get_or (set crew i new) i d)) (sym (was d)) (subst (R old) (sym (get_or-set_same crew i new d there)) here))
      by (inr n) = subst (R (get_or first j d)) (sym (get_or-set_other crew i j new d n)) (before j d (omega (arith, below, n)))

  pub same-more : (j : ℕ) (d : W) → i + 1 ≤ j → get_or (set crew i new) j d ≡ get_or first j d
  same-more j d more = let n : j ≡ i → ⊥ = λ e. omega (arith, e, more) in get_or-set_other crew i j new d n ∙ same j d (omega (arith, more))

  pub sum-more : (f : W → ℕ) → sum_by f (set crew i new) + f old ≡ sum_by f crew + f new
  sum-more f = ap (λ w. sum_by f (set crew i new) + f w) is ∙ sum_by-set f crew i new old there
