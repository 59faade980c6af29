-- What is gathered of a bucket: the pairs of the updates in a range, by key.
use Rattle.std.specs.Prelude.{ℕ, suc, Bool, ◌&&◌, if◌then◌else◌, List, [], ◌∷◌, Option, Some, None}
use Rattle.qm_model.specs.Operations.{Bytes, Operation, update, delete, commit}
use Rattle.qm_model.specs.Keys.{key_lt}
use Rattle.qm_model.specs.Ranges.{Limit, is_after, is_before}
use Rattle.qm_step.specs.Changes.{update_at}
use Rattle.qm_step.specs.Nearest.{said_key}

-- a key and its value
abbrev pub Pair : Type 0
Pair = Bytes × Bytes

-- the key is in the range
abbrev pub is_in : Limit → Limit → Bytes → Bool
is_in low high key = is_after low key && is_before high key

-- key and value of an update
abbrev pub pair_of : Operation → Pair
pair_of (update key value next) = (key, value)
pair_of (delete key) = (key, [])
pair_of (commit meta floor) = ([], [])

-- where a key goes among keys in order, after its equals
abbrev pub place_among : Bytes → List Pair → ℕ
place_among key [] = 0
place_among key (p ∷ ps) = let later = place_among key ps in if key_lt key p.0 then 0 else suc later

-- the pairs with one more in its place
abbrev pub put_pair : List Pair → Pair → List Pair
put_pair [] pair = pair ∷ []
put_pair (p ∷ ps) pair = let later = put_pair ps pair in if key_lt pair.0 p.0 then pair ∷ p ∷ ps else p ∷ later

-- the update, if its key is in the range
abbrev pub only_in : Limit → Limit → Option Operation → Option Operation
only_in low high None = None
only_in low high (Some op) = if is_in low high (said_key op) then Some op else None

-- with the pair of an update, if there is one
abbrev pub put_said : List Pair → Option Operation → List Pair
put_said pairs None = pairs
put_said pairs (Some op) = put_pair pairs (pair_of op)

-- with the pair of the update at a location, if its key is in the range
abbrev pub put_at : Limit → Limit → List Operation → List Pair → ℕ → List Pair
put_at low high list pairs at = put_said pairs (only_in low high (update_at list at))
