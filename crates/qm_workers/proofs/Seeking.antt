-- Looking for a key at the locations of a bucket.
use Rattle.std.proofs.Common.{◌≡◌, ◌≢◌, ℕ, zero, suc, ◌-◌, ◌<◌, ◌≤◌, Bool, true, false, cond, List, [], ◌∷◌, length, drop, get_or, refl, ap, sym, ◌∙◌, subst, Option, Some, None, arith, drop-cons}
use Rattle.std.specs.Prelude.{All, IfSome, option_map, bytes_eq, slice_get}
use Rattle.std.proofs.lemmas.List.Elements.{All-nil, All-cons}
use Rattle.std.specs.Option.{option_or}
use Rattle.std.proofs.lemmas.Bool.{true≢false, false≢true}
use Rattle.std.proofs.lemmas.Option.{same_Some, none-some}
use Rattle.qm_model.specs.Operations.{Bytes, Operation}
use Rattle.qm_model.proofs.LastWrites.{bytes_same}
use Rattle.qm_model.proofs.Maps.{same_key}
use Rattle.qm_build.specs.declared.read.Found.{Found}
use Rattle.qm_build.specs.Building.{key_at, IsFound}
use Rattle.qm_workers.specs.declared.look.Sought.{Sought}
use Rattle.qm_workers.specs.declared.look.Sought.TheVariants.{Here, Nowhere, Unknown}
use Rattle.qm_workers.specs.Known.{Knowledge, told, is_key, IsTrueOf}
use Rattle.qm_workers.specs.Working.{sought, sought_at, IsFront}

-- Step by step.

module _ (k : Knowledge) (key : Bytes) where
  pub sought-next : (place at : ℕ) (bucket : List ℕ) → place < length bucket → at ≡ get_or bucket place at
      → sought k key place (drop place bucket) ≡ sought_at (told k at) key (Here (record { place = place; location = at })) (Unknown at) (sought k key (suc place) (drop (suc place) bucket))
  sought-next place at bucket within is =
      ap (sought k key place) (drop-cons bucket place at within ∙ ap (λ n. n ∷ drop (suc place) bucket) (sym is))

  pub at-same : (o : Option (Option Bytes)) (here unknown later : Sought) → Some true ≡ option_map (is_key key) o → sought_at o key here unknown later ≡ here
  at-same None here unknown later is = absurd (none-some true (sym is))
  at-same (Some own) here unknown later is = ap (λ t. cond t here later) (sym (same_Some true (is_key key own) is))

  pub at-other : (o : Option (Option Bytes)) (here unknown later : Sought) → Some false ≡ option_map (is_key key) o → sought_at o key here unknown later ≡ later
  at-other None here unknown later is = absurd (none-some false (sym is))
  at-other (Some own) here unknown later is = ap (λ t. cond t here later) (sym (same_Some false (is_key key own) is))

  pub at-unknown : (o : Option (Option Bytes)) (here unknown later : Sought) → None ≡ option_map (is_key key) o → sought_at o key here unknown later ≡ unknown
  at-unknown None here unknown later is = refl
  at-unknown (Some own) here unknown later is = absurd (none-some (is_key key own) is)

  -- at the end there is nothing
  pub sought-end : (place : ℕ) (bucket : List ℕ) → length bucket ≤ place → sought k key place (drop place bucket) ≡ Nowhere
  sought-end place bucket end = ap (sought k key place) (drop_all-of bucket place end)
    where
      drop_all-of : (xs : List ℕ) (n : ℕ) → length xs ≤ n → drop n xs ≡ []
      drop_all-of [] zero end = refl
      drop_all-of [] (suc n) end = refl
      drop_all-of (x ∷ xs) zero end = absurd (omega (arith, end))
      drop_all-of (x ∷ xs) (suc n) end = drop_all-of xs n (omega (arith, end))

-- What is found stands at its place, and is told to be of the key.
pub record Stands (k : Knowledge) (key : Bytes) (place : ℕ) (bucket : List ℕ) (found : Found) : Type 0 where
  pub here : slice_get bucket (found.place - place) ≡ Some found.location
  pub from : place ≤ found.place
  pub own : Option Bytes
  pub tells : told k found.location ≡ Some own
  pub is : is_key key own ≡ true

module _ (k : Knowledge) (key : Bytes) where
  pub sought-here : (place : ℕ) (bucket : List ℕ) (found : Found) → sought k key place bucket ≡ Here found → Stands k key place bucket found
  sought-here place [] found is = cc
  sought-here place (at ∷ rest) found is = by (told k at) refl is (sought-here (suc place) rest found)
    where
      one : Found
      one = record { place = place; location = at }

      first : (own : Option Bytes) → told k at ≡ Some own → is_key key own ≡ true → Stands k key place (at ∷ rest) one
      first own tells is = let start : place - place ≡ 0 = omega arith in record { here = ap (slice_get (at ∷ rest)) start; from = omega arith; own = own; tells = tells; is = is }

      later : Stands k key (suc place) rest found → Stands k key place (at ∷ rest) found
      later h =
          let low = h.from in
          let next : found.place - place ≡ suc (found.place - suc place) = omega (arith, low) in
          record { here = ap (slice_get (at ∷ rest)) next ∙ h.here; from = omega (arith, low); own = h.own; tells = h.tells; is = h.is }

      choose : (own : Option Bytes) → told k at ≡ Some own → (t : Bool) → is_key key own ≡ t → cond t (Here one) (sought k key (suc place) rest) ≡ Here found
          → (sought k key (suc place) rest ≡ Here found → Stands k key (suc place) rest found) → Stands k key place (at ∷ rest) found
      choose own tells true same is go = let e : one ≡ found = cc in subst (Stands k key place (at ∷ rest)) e (first own tells same)
      choose own tells false differs is go = later (go is)

      by : (o : Option (Option Bytes)) → told k at ≡ o → sought_at o key (Here one) (Unknown at) (sought k key (suc place) rest) ≡ Here found
          → (sought k key (suc place) rest ≡ Here found → Stands k key (suc place) rest found) → Stands k key place (at ∷ rest) found
      by None tells is go = cc
      by (Some own) tells is go = choose own tells (is_key key own) refl is go

-- What it comes to, if all that is known is true.

module _ (ops : List Operation) (k : Knowledge) (true_of : IsTrueOf ops k) (key : Bytes) where
  -- what is told of a location is true
  pub told-true : (at : ℕ) (own : Option Bytes) → told k at ≡ Some own → key_at ops at ≡ own
  told-true at own is = by (k.hinted at) refl (k.cached at) refl is
    where
      by : (h : Option (Option Bytes)) → k.hinted at ≡ h → (c : Option Bytes) → k.cached at ≡ c → option_or h (option_map Some c) ≡ Some own → key_at ops at ≡ own
      by (Some x) hinted c cached is = true_of.hints at x hinted ∙ same_Some x own is
      by None hinted None cached is = absurd (none-some own is)
      by None hinted (Some y) cached is = true_of.cache at y cached ∙ same_Some (Some y) own is

  is-key : (own : Option Bytes) → is_key key own ≡ true → own ≡ Some key
  is-key None is = absurd (false≢true is)
  is-key (Some x) is = ap Some (same_key x key is)

  not-key : (own : Option Bytes) → is_key key own ≡ false → own ≢ Some key
  not-key None is = λ same. absurd (none-some key same)
  not-key (Some x) is = λ same. true≢false (sym (bytes_same key) ∙ ap (λ y. bytes_eq y key) (sym (same_Some x key same)) ∙ is)

  -- or there is none
  pub sought-nowhere : (place : ℕ) (bucket : List ℕ) → sought k key place bucket ≡ Nowhere → All (λ at. key_at ops at ≢ Some key) bucket
  sought-nowhere place [] is = All-nil (λ at. key_at ops at ≢ Some key)
  sought-nowhere place (at ∷ rest) is = by (told k at) refl is (sought-nowhere (suc place) rest)
    where
      one : Found
      one = record { place = place; location = at }

      choose : (own : Option Bytes) → told k at ≡ Some own → (t : Bool) → is_key key own ≡ t → cond t (Here one) (sought k key (suc place) rest) ≡ Nowhere
          → (sought k key (suc place) rest ≡ Nowhere → All (λ n. key_at ops n ≢ Some key) rest) → All (λ n. key_at ops n ≢ Some key) (at ∷ rest)
      choose own tells true same_key_is is go = cc
      choose own tells false differs is go = All-cons (λ n. key_at ops n ≢ Some key) at rest (λ here. not-key own differs (sym (told-true at own tells) ∙ here)) (go is)

      by : (o : Option (Option Bytes)) → told k at ≡ o → sought_at o key (Here one) (Unknown at) (sought k key (suc place) rest) ≡ Nowhere
          → (sought k key (suc place) rest ≡ Nowhere → All (λ n. key_at ops n ≢ Some key) rest) → All (λ n. key_at ops n ≢ Some key) (at ∷ rest)
      by None tells is go = cc
      by (Some own) tells is go = choose own tells (is_key key own) refl is go

  -- what was found is what there is
  pub front-found : (bucket : List ℕ) (found : Option Found) → IsFront (sought k key 0 bucket) found → IsFound ops key bucket (option_map (λ f. f.location) found)
  front-found bucket None is = sought-nowhere 0 bucket is
  front-found bucket (Some f) is = let s = sought-here k key 0 bucket f is in told-true f.location s.own s.tells ∙ is-key s.own s.is

-- and it stands in the bucket
pub front-place : (k : Knowledge) (key : Bytes) (bucket : List ℕ) (found : Option Found) → IsFront (sought k key 0 bucket) found → IfSome found (λ f. slice_get bucket f.place ≡ Some f.location)
front-place k key bucket None is = tt
front-place k key bucket (Some f) is = let s = sought-here k key 0 bucket f is in let same : f.place - 0 ≡ f.place = omega arith in ap (slice_get bucket) (sym same) ∙ s.here
