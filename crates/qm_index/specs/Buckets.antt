-- An index as a finite map from index keys to lists of values: the list of its entries.
use Rattle.std.specs.Prelude.{◌≡◌, ◌≢◌, ℕ, nat_eq, if◌then◌else◌, List, [], Some, unwrap_or}
use Rattle.std.specs.List.{flat_map, IsDistinct}
use Rattle.std.specs.Map.{lookup, keys_of, values_of}

-- the values under an index key, none if it has no bucket
abbrev pub bucket_at : {V : Type 0} → List (ℕ × List V) → ℕ → List V
bucket_at entries k = unwrap_or (lookup (nat_eq k) entries) []

-- the new map has these values under the index key, and at each other one what the old map has
abbrev pub Puts : {V : Type 0} → List (ℕ × List V) → List (ℕ × List V) → ℕ → List V → Type 0
Puts old new k values = (q : ℕ) → bucket_at new q ≡ (if nat_eq k q then values else bucket_at old q)

-- no index key stands twice, and none has an empty bucket
abbrev pub IsIndex : {V : Type 0} → List (ℕ × List V) → Type 0
IsIndex entries = IsDistinct nat_eq (keys_of entries) × ((k : ℕ) → lookup (nat_eq k) entries ≢ Some [])

-- every value, bucket by bucket
abbrev pub all_values : {V : Type 0} → List (ℕ × List V) → List V
all_values entries = flat_map (λ bucket. bucket) (values_of entries)
