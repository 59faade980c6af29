-- Indices in partitions, as one index.
use Rattle.std.specs.Prelude.{◌≡◌, ℕ, suc, false, ◌+◌, ◌-◌, ◌*◌, ◌/◌, ◌^◌, ◌≤◌, Bool, nat_le, nat_lt, ◌&&◌, if◌then◌else◌, List, [], ◌∷◌, ◌++◌, length, map, drop, set, slice_index_or, nat_eq, None, ⊤}
use Rattle.std.specs.Map.{lookup}
use Rattle.qm_model.specs.Operations.{Bytes}
use Rattle.qm_index.specs.Buckets.{bucket_at, Puts, IsIndex}
use Rattle.qm_index.specs.Translated.{capped}

-- the index key of a key: its partition, then what is made of the rest
abbrev pub partitioned : ℕ → (Bytes → ℕ) → Bytes → ℕ
partitioned width index_key key = capped width key * 2 ^ 64 + index_key (drop width key)

-- the partition of an index key
abbrev pub partition_of : ℕ → ℕ
partition_of k = k / 2 ^ 64

-- a partition is one of those from the first up to the end, which is none of them
abbrev pub is_among : ℕ → ℕ → ℕ → Bool
is_among first end p = nat_le first p && nat_lt p end

-- so many partitions, from the first one on
pub record Range : Type 0 where
  pub first : ℕ
  pub count : ℕ

-- an index key's partition is one of the range
abbrev pub in_range : Range → ℕ → Bool
in_range range k = is_among range.first (range.first + range.count) (partition_of k)

-- the new index has the range's buckets in its partitions, and in others what the old one had
abbrev pub Installed : {V : Type 0} → List (ℕ × List V) → List (ℕ × List V) → List (ℕ × List V) → Range → Type 0
Installed old new entries range = (k : ℕ) → bucket_at new k ≡ (if in_range range k then bucket_at entries k else bucket_at old k)

-- no bucket stands outside of the range
abbrev pub IsWithin : {V : Type 0} → List (ℕ × List V) → Range → Type 0
IsWithin entries range = (k : ℕ) → in_range range k ≡ false → bucket_at entries k ≡ []

-- partitions of a range; those behind the last that is there are empty
pub record Parts (V : Type 0) : Type 0 where
  pub range : Range
  pub parts : List (List (ℕ × List V))

-- the buckets of a partition among those of all: the partition stands before the index key, which is below 2^64
abbrev pub raised : {V : Type 0} → ℕ → List (ℕ × List V) → List (ℕ × List V)
raised p entries = map (λ b. (p * 2 ^ 64 + b.0, b.1)) entries

-- those of partitions, the first of which is this one
abbrev pub joined : {V : Type 0} → ℕ → List (List (ℕ × List V)) → List (ℕ × List V)
joined p [] = []
joined p (part ∷ parts) = raised p part ++ joined (suc p) parts

abbrev pub joined_parts : {V : Type 0} → Parts V → List (ℕ × List V)
joined_parts parts = joined parts.range.first parts.parts

-- no index key is 2^64 or more
abbrev pub AreSmall : {V : Type 0} → List (ℕ × List V) → Type 0
AreSmall part = (k : ℕ) → 2 ^ 64 ≤ k → lookup (nat_eq k) part ≡ None

-- each partition is an index of such index keys
abbrev pub AreIndices : {V : Type 0} → List (List (ℕ × List V)) → Type 0
AreIndices [] = ⊤
AreIndices (part ∷ parts) = (IsIndex part × AreSmall part) × AreIndices parts

-- no more partitions than there may be, each an index
pub record AreParts {V : Type 0} (count : ℕ) (parts : List (List (ℕ × List V))) : Type 0 where
  pub few : length parts ≤ count
  pub indices : AreIndices parts

-- what stands in a partition, of those from the first one on; nothing if it is none of them
abbrev pub part_at : {V : Type 0} → ℕ → List (List (ℕ × List V)) → ℕ → List (ℕ × List V)
part_at first parts p = if nat_lt p first then [] else slice_index_or parts (p - first) []

-- a partition has other values under one index key, which are made of those that it had
pub record Changes {V : Type 0} (old new : List (List (ℕ × List V))) (place k : ℕ) (values : List V → List V) : Type 0 where
  pub part : List (ℕ × List V)
  pub is : new ≡ set old place part
  pub index : IsIndex part
  pub puts : Puts (slice_index_or old place []) part k (values (bucket_at (slice_index_or old place []) k))
