-- Neighbours by look-ups, on the way up through index keys or down: `Goes a b` where the way goes on from a to b.
use Rattle.std.specs.Prelude.{◌≡◌, ℕ, ◌<◌, nat_eq, List, [], Option, Some, None, slice_index_or}
use Rattle.std.specs.Map.{lookup}

abbrev pub Up : ℕ → ℕ → Type 0
Up a b = a < b

abbrev pub Down : ℕ → ℕ → Type 0
Down a b = b < a

-- the bucket of the first index key on the way, none where there is none
abbrev pub FirstIs : {V : Type 0} → (ℕ → ℕ → Type 0) → List (ℕ × List V) → Option (List V) → Type 0
FirstIs Goes entries None = (x : ℕ) → lookup (nat_eq x) entries ≡ None
FirstIs Goes entries (Some b) = (n : ℕ) × (lookup (nat_eq n) entries ≡ Some b) × ((x : ℕ) → Goes x n → lookup (nat_eq x) entries ≡ None)

-- the bucket of the first index key on the way from k, which is not k
abbrev pub NextIs : {V : Type 0} → (ℕ → ℕ → Type 0) → List (ℕ × List V) → ℕ → Option (List V) → Type 0
NextIs Goes entries k None = (x : ℕ) → Goes k x → lookup (nat_eq x) entries ≡ None
NextIs Goes entries k (Some b) = (n : ℕ) × Goes k n × (lookup (nat_eq n) entries ≡ Some b) × ((x : ℕ) → Goes k x → Goes x n → lookup (nat_eq x) entries ≡ None)

-- the first bucket on the way through those partitions whose places are such
abbrev pub FirstOf : {V : Type 0} → (ℕ → ℕ → Type 0) → (ℕ → Type 0) → List (List (ℕ × List V)) → Option (List V) → Type 0
FirstOf Goes Is parts None = (j : ℕ) → Is j → (x : ℕ) → lookup (nat_eq x) (slice_index_or parts j []) ≡ None
FirstOf Goes Is parts (Some b) = (i : ℕ) × Is i × FirstIs Goes (slice_index_or parts i []) (Some b) × ((j : ℕ) → Is j → Goes j i → (x : ℕ) → lookup (nat_eq x) (slice_index_or parts j []) ≡ None)
