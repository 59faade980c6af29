-- Reads in key order: neighbours, which do not go round, spans and ranges.
use Rattle.std.specs.Prelude.{◌≡◌, refl, Bool, true, ◌&&◌, not, List, [], ◌∷◌, filter, filter_map, Option, Some, None, option_map, option_and_then}
use Rattle.std.specs.Option.{option_or}
use Rattle.qm_model.specs.Operations.{Bytes, Operation, update, commit}
use Rattle.qm_model.specs.Live.{Live, live, live_of, live_keys, value_of}
use Rattle.qm_model.specs.Keys.{key_lt, least, greatest, predecessor, by_key}

-- the least of the keys above the given one
abbrev pub key_above : List Bytes → Bytes → Option Bytes
key_above keys key = least (filter (λ k. key_lt key k) keys)

-- the greatest of the keys below it
abbrev pub key_below : List Bytes → Bytes → Option Bytes
key_below keys key = greatest (filter (λ k. key_lt k key) keys)

-- the live update whose span holds the key: the key's own, or else that of the nearest live key before it, around the ring
abbrev pub span_of : List Operation → Bytes → Option Live
span_of ops key = option_or (live_of (live ops) key) (option_and_then (live_of (live ops)) (predecessor (live_keys ops) key))

-- where a range of keys begins or ends
pub data Limit : Type 0 where
  included : Bytes → Limit
  excluded : Bytes → Limit
  unlimited : Limit

-- the key does not come before this beginning
abbrev pub is_after : Limit → Bytes → Bool
is_after (included k) key = not (key_lt key k)
is_after (excluded k) key = key_lt k key
is_after unlimited key = true

-- the key does not come after this end
abbrev pub is_before : Limit → Bytes → Bool
is_before (included k) key = not (key_lt k key)
is_before (excluded k) key = key_lt key k
is_before unlimited key = true

-- the live keys in a range, by key
abbrev pub keys_in : Limit → Limit → List Operation → List Bytes
keys_in low high ops = filter (λ k. is_after low k && is_before high k) (by_key (live_keys ops))

-- each with its value
abbrev pub pairs_in : Limit → Limit → List Operation → List (Bytes × Bytes)
pairs_in low high ops = filter_map (λ k. option_map (λ v. (k, v)) (value_of ops k)) (keys_in low high ops)

-- the database of the keys a and c
abbrev two_keys : List Operation
two_keys = commit None 0 ∷ update (97 ∷ []) (1 ∷ []) (Some (99 ∷ [])) ∷ update (99 ∷ []) (3 ∷ []) (Some (97 ∷ [])) ∷ commit None 0 ∷ []

above_a : key_above (live_keys two_keys) (97 ∷ []) ≡ Some (99 ∷ [])
above_a = refl

above_c : key_above (live_keys two_keys) (99 ∷ []) ≡ None
above_c = refl

below_a : key_below (live_keys two_keys) (97 ∷ []) ≡ None
below_a = refl

below_b : key_below (live_keys two_keys) (98 ∷ []) ≡ Some (97 ∷ [])
below_b = refl

-- b is in the span of a, and a prefix of it is before all and so in that of c
span_of_b : option_map (λ e. e.key) (span_of two_keys (98 ∷ [])) ≡ Some (97 ∷ [])
span_of_b = refl

span_of_none : option_map (λ e. e.key) (span_of two_keys []) ≡ Some (99 ∷ [])
span_of_none = refl

-- from a, without c; after a; from c to a, and from a to before it, nothing
from_a : pairs_in (included (97 ∷ [])) (excluded (99 ∷ [])) two_keys ≡ (97 ∷ [], 1 ∷ []) ∷ []
from_a = refl

behind_a : pairs_in (excluded (97 ∷ [])) unlimited two_keys ≡ (99 ∷ [], 3 ∷ []) ∷ []
behind_a = refl

reversed : keys_in (included (99 ∷ [])) (included (97 ∷ [])) two_keys ≡ []
reversed = refl

empty : keys_in (included (97 ∷ [])) (excluded (97 ∷ [])) two_keys ≡ []
empty = refl

all_keys : keys_in unlimited unlimited two_keys ≡ (97 ∷ []) ∷ (99 ∷ []) ∷ []
all_keys = refl
