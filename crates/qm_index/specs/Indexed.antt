-- What an index of a database's keys stands for.
use Rattle.std.specs.Prelude.{ℕ, List, ◌==◌, map, filter, IsPermutation}
use Rattle.qm_model.specs.Live.{live}
use Rattle.qm_model.specs.Operations.{Bytes, Operation}
use Rattle.qm_index.specs.Buckets.{bucket_at}

-- the locations of the live updates whose keys have this index key
abbrev pub locations_at : (Bytes → ℕ) → List Operation → ℕ → List ℕ
locations_at index_key list k = map (λ e. e.location) (filter (λ e. index_key e.key == k) (live list))

-- the index has for each index key the locations of the live updates whose keys have it
abbrev pub IsIndexed : (Bytes → ℕ) → List (ℕ × List ℕ) → List Operation → Type 0
IsIndexed index_key entries list = (k : ℕ) → IsPermutation (locations_at index_key list k) (bucket_at entries k)
