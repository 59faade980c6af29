-- Indices whose locations are all within bounds.
use Rattle.std.proofs.Common.{◌≡◌, ℕ, ◌+◌, ◌-◌, ◌<◌, ◌≤◌, Bool, true, false, List, [], ◌∷◌, ◌++◌, length, get_or, set, refl, sym, subst, Option, Some, None, arith}
use Rattle.std.specs.Prelude.{All, Contains, IfSome, nat_eq, option_map, remove, slice_get, if◌then◌else◌}
use Rattle.std.proofs.lemmas.List.{get_or_default}
use Rattle.std.proofs.lemmas.List.Elements.{All-nil, All-set, All-push, All-tail, All-weaker, All-contains_itself}
use Rattle.std.proofs.lemmas.List.Sorted.{IsPermutation-remove, All-permutation}
use Rattle.std.proofs.lemmas.Option.{slice_get_within, get_or_from_slice_get}
use Rattle.qm_index.specs.Buckets.{bucket_at, Puts}
use Rattle.qm_model.specs.Operations.{Operation, update, delete, commit}
use Rattle.qm_build.specs.declared.read.Found.{Found}
use Rattle.qm_build.specs.Building.{AreWithin}
use Rattle.qm_build.proofs.Pushing.{left_at, offset}

module _ (old new : List (ℕ × List ℕ)) (k from to : ℕ) (within : AreWithin from to old) where
  abbrev Inside : ℕ → Type 0
  Inside at = (from ≤ at) × (at < to)

  abbrev bucket : List ℕ
  bucket = bucket_at old k

  put : (values : List ℕ) → Puts old new k values → All Inside values → AreWithin from to new
  put values puts all q = subst (All Inside) (sym (puts q)) (by (nat_eq k q))
    where
      by : (t : Bool) → All Inside (if t then values else bucket_at old q)
      by true = all
      by false = within q

  pub within-set : (i at : ℕ) → Puts old new k (set bucket i at) → Inside at → AreWithin from to new
  within-set i at puts here = put (set bucket i at) puts (All-set Inside bucket i at here (within k))

  pub within-push : (at : ℕ) → Puts old new k (bucket ++ at ∷ []) → Inside at → AreWithin from to new
  within-push at puts here = put (bucket ++ at ∷ []) puts (All-push Inside bucket at (within k) here)

  pub within-remove : (i : ℕ) → i < length bucket → Puts old new k (remove bucket i) → AreWithin from to new
  within-remove i low puts =
      let x = get_or bucket i 0 in
      let same : x ≡ get_or bucket i x = sym (get_or_default bucket i x 0 low) in
      put (remove bucket i) puts (All-tail Inside x (remove bucket i) (All-permutation Inside bucket (x ∷ remove bucket i) (IsPermutation-remove bucket i x low same) (within k)))

-- no entries have no location
pub within-none : (entries : List (ℕ × List ℕ)) (from to : ℕ) → entries ≡ [] → AreWithin from to entries
within-none entries from to empty k = subst (λ es. All (λ at. (from ≤ at) × (at < to)) (bucket_at es k)) (sym empty) (All-nil (λ at. (from ≤ at) × (at < to)))

-- wider bounds
pub within-wider : (entries : List (ℕ × List ℕ)) (from to more : ℕ) → to ≤ more → AreWithin from to entries → AreWithin from more entries
within-wider entries from to more wider within k = All-weaker (λ at. (from ≤ at) × (at < to)) (λ at. (from ≤ at) × (at < more)) (λ at h. let low = h.0 in let high = h.1 in (omega (arith, low), omega (arith, high))) (bucket_at entries k) (within k)

-- What was found in a bucket.

pub found-within : (values : List ℕ) (P : ℕ → Type 0) (found : Option Found) → All P values → IfSome found (λ f. slice_get values f.place ≡ Some f.location) → IfSome found (λ f. P f.location)
found-within values P None all is = tt
found-within values P (Some f) all is = subst P (get_or_from_slice_get values f.place f.location f.location is) (all f.place f.location (slice_get_within values f.place f.location is))

pub found-contained : (values : List ℕ) (found : Option Found) → IfSome found (λ f. slice_get values f.place ≡ Some f.location) → IfSome (option_map (λ f. f.location) found) (λ at. Contains values at)
found-contained values None is = tt
found-contained values (Some f) is = found-within values (Contains values) (Some f) (All-contains_itself values) is

pub found-offset : (floor : ℕ) (found : Option Found) → option_map (λ f. f.location - floor) found ≡ offset floor (option_map (λ f. f.location) found)
found-offset floor None = refl
found-offset floor (Some f) = refl

-- where an operation leaves its key is within the bounds that have the operation's location
pub left-within : (op : Operation) (floor at : ℕ) → floor ≤ at → IfSome (left_at op at) (λ n. (floor ≤ n) × (n < at + 1))
left-within (update k v n) floor at low = (low, omega arith)
left-within (delete k) floor at low = tt
left-within (commit m f) floor at low = tt
