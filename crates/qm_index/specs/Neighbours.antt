-- Neighbours among index keys, which go round: after the greatest the least comes again.
use Rattle.std.specs.Prelude.{ℕ, min, max, Bool, true, false, nat_lt, ◌==◌, List, [], ◌∷◌, map, fold, filter, Option, None, Some, option_map, option_and_then, IsPermutation}
use Rattle.std.specs.Option.{option_or}
use Rattle.qm_model.specs.Operations.{Bytes}
use Rattle.qm_model.specs.Keys.{key_lt, least, greatest}
use Rattle.qm_index.specs.Buckets.{bucket_at}

-- what is picked of all the numbers, when they are compared two at a time
abbrev pub picked : (ℕ → ℕ → ℕ) → List ℕ → Option ℕ
picked pick [] = None
picked pick (k ∷ ks) = Some (fold pick k ks)

abbrev pub least_key : List ℕ → Option ℕ
least_key keys = picked min keys

abbrev pub greatest_key : List ℕ → Option ℕ
greatest_key keys = picked max keys

-- the near one, or else the far one, flagged as wrapped
abbrev pub near_or_wrapped : Option ℕ → Option ℕ → Option (ℕ × Bool)
near_or_wrapped near far = option_or (option_map (λ k. (k, false)) near) (option_map (λ k. (k, true)) far)

-- the least index key above k, or else the least of all
abbrev pub next_key : List ℕ → ℕ → Option (ℕ × Bool)
next_key keys k = near_or_wrapped (least_key (filter (λ q. nat_lt k q) keys)) (least_key keys)

-- the greatest index key below k, or else the greatest of all
abbrev pub prev_key : List ℕ → ℕ → Option (ℕ × Bool)
prev_key keys k = near_or_wrapped (greatest_key (filter (λ q. nat_lt q k) keys)) (greatest_key keys)

-- the bucket of a neighbour, with its flag
abbrev pub neighbour_at : {V : Type 0} → List (ℕ × List V) → Option (ℕ × Bool) → Option (List V × Bool)
neighbour_at entries found = option_map (λ n. (bucket_at entries n.0, n.1)) found

-- the keys that have this index key
abbrev pub keys_at : (Bytes → ℕ) → List Bytes → ℕ → List Bytes
keys_at index_key keys k = filter (λ key. index_key key == k) keys

-- the least key above the given one in its own bucket, or else the least in the next bucket
abbrev pub next_by_index : (Bytes → ℕ) → List ℕ → List Bytes → Bytes → Option Bytes
next_by_index index_key index_keys keys key =
    option_or (least (filter (λ k. key_lt key k) (keys_at index_key keys (index_key key)))) (option_and_then (λ n. least (keys_at index_key keys n.0)) (next_key index_keys (index_key key)))

-- the greatest key below the given one in its own bucket, or else the greatest in the bucket before
abbrev pub prev_by_index : (Bytes → ℕ) → List ℕ → List Bytes → Bytes → Option Bytes
prev_by_index index_key index_keys keys key =
    option_or (greatest (filter (λ k. key_lt k key) (keys_at index_key keys (index_key key)))) (option_and_then (λ n. greatest (keys_at index_key keys n.0)) (prev_key index_keys (index_key key)))

-- the least key in the first bucket
abbrev pub first_by_index : (Bytes → ℕ) → List ℕ → List Bytes → Option Bytes
first_by_index index_key index_keys keys = option_and_then (λ n. least (keys_at index_key keys n)) (least_key index_keys)

-- the values of the elements whose keys have this index key
abbrev pub values_at : {E V : Type 0} → (Bytes → ℕ) → (E → Bytes) → (E → V) → List E → ℕ → List V
values_at index_key key value elements k = map value (filter (λ e. index_key (key e) == k) elements)

-- an index stands for elements with keys: each bucket has the values of those whose keys have its index key
abbrev pub StandsFor : {E V : Type 0} → (Bytes → ℕ) → (E → Bytes) → (E → V) → List (ℕ × List V) → List E → Type 0
StandsFor index_key key value entries elements = (k : ℕ) → IsPermutation (values_at index_key key value elements k) (bucket_at entries k)
