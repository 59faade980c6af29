-- What is built of the first operations of a list, from a floor on.
use Rattle.std.specs.Prelude.{◌≡◌, ◌≢◌, ◌+◌, ◌-◌, ◌≤◌, ◌<◌, ℕ, Bool, List, [], ◌∷◌, length, map, take, drop, set, false, true, All, Option, None, Some, is_some, slice_get, option_and_then}
use Rattle.qm_model.specs.Operations.{Bytes, Operation}
use Rattle.qm_model.specs.Live.{live_at, live_from}
use Rattle.qm_operations.specs.Parts.{update_key}
use Rattle.qm_index.specs.Buckets.{bucket_at}
use Rattle.qm_index.specs.Places.{Places, AreApart, HasPlaces}

-- the key of the update at a location
abbrev pub key_at : List Operation → ℕ → Option Bytes
key_at ops at = option_and_then update_key (slice_get ops at)

-- the operations from one location up to, and without, another
abbrev pub between : ℕ → ℕ → List Operation → List Operation
between from to ops = take (to - from) (drop from ops)

-- the live keys of operations, the first of which stands at this location
abbrev pub places_from : ℕ → List Operation → Places
places_from first ops = map (λ e. (e.key, e.location)) (live_from first ops)

-- one bit for each operation, set where a live update stands
abbrev pub live_bits : List Operation → List Bool
live_bits [] = []
live_bits (op ∷ rest) = is_some (live_at 0 op rest) ∷ live_bits rest

-- places and bits of operations, the first of which stands at the floor
pub record ArePlaced (index_key : Bytes → ℕ) (entries : List (ℕ × List ℕ)) (live_keys : ℕ) (activity : List Bool) (floor : ℕ) (ops : List Operation) : Type 0 where
  pub indexed : HasPlaces index_key entries (places_from floor ops)
  pub apart : AreApart (places_from floor ops)
  pub counted : live_keys ≡ length (places_from floor ops)
  pub marked : activity ≡ live_bits ops

-- each location in an index is one of these
abbrev pub AreWithin : ℕ → ℕ → List (ℕ × List ℕ) → Type 0
AreWithin from to entries = (k : ℕ) → All (λ at. (from ≤ at) × (at < to)) (bucket_at entries k)

-- bits with this one clear
abbrev pub cleared : List Bool → Option ℕ → List Bool
cleared bits None = bits
cleared bits (Some at) = set bits at false

-- the number of live keys after an operation that is an update or not, whose key was live or not
abbrev pub counted_after : ℕ → Option ℕ → Bool → ℕ
counted_after n None true = n + 1
counted_after n None false = n
counted_after n (Some at) true = n
counted_after n (Some at) false = n - 1

-- an update of the key stands at this one of a bucket's locations, or at none of them
abbrev pub IsFound : List Operation → Bytes → List ℕ → Option ℕ → Type 0
IsFound ops key bucket None = All (λ at. key_at ops at ≢ Some key) bucket
IsFound ops key bucket (Some at) = key_at ops at ≡ Some key
