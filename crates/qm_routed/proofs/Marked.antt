-- The values of an index are the locations of its places.
use Rattle.std.proofs.Common.{◌≡◌, ◌⊎◌, inl, inr, ◌↔◌, ℕ, nat_eq, Bool, true, false, cond, List, [], ◌∷◌, ◌++◌, refl, sym, ◌∙◌, subst, Some, arith, map}
use Rattle.std.specs.Prelude.{Contains, filter, ◌==◌, unwrap_or}
use Rattle.std.specs.List.{IsDistinct, AllByRecursion as Each}
use Rattle.std.specs.Map.{lookup, keys_of}
use Rattle.std.proofs.lemmas.Bool.{eqb-true, eq-eqb}
use Rattle.std.proofs.lemmas.List.Elements.{Contains-append_left, Contains-append_right, Contains-append_cases}
use Rattle.std.proofs.lemmas.List.Sorted.{Contains-permutation, IsPermutation-sym}
use Rattle.qm_model.specs.Operations.{Bytes}
use Rattle.qm_index.specs.Buckets.{bucket_at, all_values, IsIndex}
use Rattle.qm_index.specs.Places.{Places, HasPlaces}
use Rattle.qm_index.proofs.Members.{first_or_later, Contains-first, Contains-later, from_image, in_image, from_filtered, in_filtered}

-- a value of a bucket is one of all
value-of : (k l : ℕ) (es : List (ℕ × List ℕ)) → Contains (bucket_at es k) l → Contains (all_values es) l
value-of k l [] (i, within, is) = absurd (omega (arith, within))
value-of k l (e ∷ es) has = by (nat_eq k e.0) has (value-of k l es)
  where
    by : (t : Bool) → Contains (unwrap_or (cond t (Some e.1) (lookup (nat_eq k) es)) []) l → (Contains (bucket_at es k) l → Contains (all_values es) l) → Contains (e.1 ++ all_values es) l
    by true has later = Contains-append_left e.1 (all_values es) l has
    by false has later = Contains-append_right e.1 (all_values es) l (later has)

-- a number that differs from each of a list's is not one of them
apart-from : (m k : ℕ) (ks : List ℕ) → Each (λ j. nat_eq m j ≡ false) ks → Contains ks k → nat_eq k m ≡ false
apart-from m k [] each (i, within, is) = absurd (omega (arith, within))
apart-from m k (j ∷ js) each has = cases (first_or_later j js k has) (nat_eq k m) refl (apart-from m k js each.1)
  where
    cases : (j ≡ k) ⊎ Contains js k → (t : Bool) → nat_eq k m ≡ t → (Contains js k → nat_eq k m ≡ false) → nat_eq k m ≡ false
    cases (inl same) true is go = let e_is : k ≡ m = eqb-true k m is in let yes : nat_eq m j ≡ true = eq-eqb m j (sym e_is ∙ sym same) in let no = each.0 in cc
    cases (inl same) false is go = is
    cases (inr later) t is go = go later

-- and each value is one of a bucket
bucket-of : (l : ℕ) (es : List (ℕ × List ℕ)) → IsDistinct nat_eq (keys_of es) → Contains (all_values es) l → (k : ℕ) × Contains (bucket_at es k) l × Contains (keys_of es) k
unfolding IsDistinct
bucket-of l [] apart (i, within, is) = absurd (omega (arith, within))
bucket-of l (e ∷ es) apart has = by (Contains-append_cases e.1 (all_values es) l has) (bucket-of l es apart.1)
  where
    by : Contains e.1 l ⊎ Contains (all_values es) l → (Contains (all_values es) l → (k : ℕ) × Contains (bucket_at es k) l × Contains (keys_of es) k) → (k : ℕ) × Contains (bucket_at (e ∷ es) k) l × Contains (keys_of (e ∷ es)) k
    by (inl here) later = (e.0, subst (λ (t : Bool). Contains (unwrap_or (cond t (Some e.1) (lookup (nat_eq e.0) es)) []) l) (sym (eq-eqb e.0 e.0 refl)) here, Contains-first e.0 (keys_of es))
    by (inr there) later =
        let found = later there in
        (found.0, subst (λ (t : Bool). Contains (unwrap_or (cond t (Some e.1) (lookup (nat_eq found.0) es)) []) l) (sym (apart-from e.0 found.0 (keys_of es) apart.0 found.2)) found.1, Contains-later e.0 (keys_of es) found.0 found.2)

-- the values are the locations
pub values-are-places : (index_key : Bytes → ℕ) (es : List (ℕ × List ℕ)) (ps : Places) → IsIndex es → HasPlaces index_key es ps → (l : ℕ) → Contains (all_values es) l ↔ Contains (map (λ p. p.1) ps) l
values-are-places index_key es ps is has l = (
  (λ there.
      let found = bucket-of l es is.0 there in
      let at = Contains-permutation (bucket_at es found.0) (map (λ (p : Bytes × ℕ). p.1) (filter (λ p. index_key p.0 == found.0) ps)) l (IsPermutation-sym (map (λ (p : Bytes × ℕ). p.1) (filter (λ p. index_key p.0 == found.0) ps)) (bucket_at es found.0) (has found.0)) found.1 in
      let image = from_image (λ (p : Bytes × ℕ). p.1) (filter (λ p. index_key p.0 == found.0) ps) l at in
      let own = from_filtered (λ (p : Bytes × ℕ). index_key p.0 == found.0) ps image.0 image.1 in
      subst (λ n. Contains (map (λ (p : Bytes × ℕ). p.1) ps) n) image.2 (in_image (λ (p : Bytes × ℕ). p.1) ps image.0 own.0)),
  (λ there.
      let image = from_image (λ (p : Bytes × ℕ). p.1) ps l there in
      let k : ℕ = index_key image.0.0 in
      let own = in_filtered (λ (p : Bytes × ℕ). index_key p.0 == k) ps image.0 image.1 (eq-eqb k k refl) in
      let at = Contains-permutation (map (λ (p : Bytes × ℕ). p.1) (filter (λ p. index_key p.0 == k) ps)) (bucket_at es k) image.0.1 (has k) (in_image (λ (p : Bytes × ℕ). p.1) (filter (λ p. index_key p.0 == k) ps) image.0 own) in
      subst (λ n. Contains (all_values es) n) image.2 (value-of k image.0.1 es at)),
)
