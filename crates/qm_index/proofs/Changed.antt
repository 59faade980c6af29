-- Buckets by index key of which one changes.
use Rattle.std.proofs.Common.{◌≡◌, ℕ, Bool, true, false, cond, nat_eq, length, ◌<◌, List, [], Option, Some, None, refl, ap, sym, ◌∙◌, subst, arith}
use Rattle.std.specs.Prelude.{if◌then◌else◌, unwrap_or}
use Rattle.std.specs.List.{IsDistinct}
use Rattle.std.specs.Map.{lookup, keys_of}
use Rattle.qm_index.specs.Buckets.{bucket_at, Puts, IsIndex}

module _ {V : Type 0} (old : List (ℕ × List V)) (k : ℕ) where
  -- the bucket that stands at an index key
  pub bucket-at : (found : Option (List V)) → found ≡ lookup (nat_eq k) old → unwrap_or found [] ≡ bucket_at old k
  bucket-at found is = ap (λ o. unwrap_or o []) is

  -- its places are the bucket's
  pub place-in : (found : List V) (i : ℕ) → Some found ≡ lookup (nat_eq k) old → i < length (bucket_at old k) → i < length found
  place-in found i is place = subst (λ values. i < length values) (sym (bucket-at (Some found) is)) place

  -- no place is in a bucket that is not there
  pub no-place : (i : ℕ) → None ≡ lookup (nat_eq k) old → i < length (bucket_at old k) → ⊥
  no-place i is place = let none : i < length {A = V} [] = subst (λ values. i < length values) (sym (bucket-at None is)) place in omega (arith, none)

  -- another one is put there, or none
  module _ (new : List (ℕ × List V)) (w : Option (List V)) (changed : (q : ℕ) → lookup (nat_eq q) new ≡ cond (nat_eq k q) w (lookup (nat_eq q) old)) where
    pub changed-puts : Puts old new k (unwrap_or w [])
    changed-puts q = ap (λ o. unwrap_or o []) (changed q) ∙ cases (nat_eq k q)
      where
        cases : (t : Bool) → unwrap_or (cond t w (lookup (nat_eq q) old)) [] ≡ (if t then unwrap_or w [] else bucket_at old q)
        cases true = refl
        cases false = refl

    -- they stay an index, if it has some values or is none at all
    pub changed-index : IsIndex old → IsDistinct nat_eq (keys_of new) → (w ≡ Some [] → ⊥) → IsIndex new
    changed-index was apart some = (apart, λ q none. cases (nat_eq k q) q (sym (changed q) ∙ none))
      where
        cases : (t : Bool) (q : ℕ) → cond t w (lookup (nat_eq q) old) ≡ Some [] → ⊥
        cases true q h = some h
        cases false q h = was.1 q h

    -- made of the values that stood there
    pub changed-by : (found : Option (List V)) → found ≡ lookup (nat_eq k) old → (values : List V → List V) → unwrap_or w [] ≡ values (unwrap_or found []) → Puts old new k (values (bucket_at old k))
    changed-by found is values by = subst (Puts old new k) (by ∙ ap values (bucket-at found is)) changed-puts
