-- Operations with their locations, as they are handed to whoever rebuilds a part of an index, and which partitions that part has.
use Rattle.std.specs.Prelude.{◌≡◌, ◌⊎◌, ◌==◌, ℕ, zero, suc, ◌*◌, ◌/◌, ◌+◌, ◌-◌, ◌&&◌, nat_le, nat_lt, Bool, true, false, List, [], ◌∷◌, map, filter}
use Rattle.std.specs.List.{cons_option}
use Rattle.qm_model.specs.Operations.{Bytes, Operation, update, delete, commit}
use Rattle.qm_model.specs.Live.{Live, live_at, live_from}
use Rattle.qm_index.specs.Places.{Places, HasPlaces}
use Rattle.qm_index.specs.Buckets.{bucket_at}

-- operations, each with its location
abbrev pub Routed : Type 0
Routed = List (ℕ × Operation)

-- operations in a row, the first at this location
abbrev pub located : ℕ → List Operation → Routed
located i [] = []
located i (op ∷ ops) = (i, op) ∷ located (suc i) ops

-- the live updates among these: those whose key none of the later ones updates or deletes
abbrev pub live_routed : Routed → List Live
live_routed [] = []
live_routed (r ∷ rest) = cons_option (live_at r.0 r.1 (map (λ u. u.1) rest)) (live_routed rest)

-- the keys of live updates, each with its location
abbrev pub pairs : List Live → Places
pairs es = map (λ e. (e.key, e.location)) es

-- the live keys among these
abbrev pub places_routed : Routed → Places
places_routed rs = pairs (live_routed rs)

-- the operation's key passes the test; a commit has none
abbrev pub is_own : (Bytes → Bool) → Operation → Bool
is_own own (update k v n) = own k
is_own own (delete k) = own k
is_own own (commit m f) = false

-- the operations of these keys alone
abbrev pub routed : (Bytes → Bool) → Routed → Routed
routed own rs = filter (λ r. is_own own r.1) rs

-- a part of an index that owns this index key was rebuilt of the operations of its keys alone, and an index has its bucket
pub record HasPartAt (index_key : Bytes → ℕ) (entries : List (ℕ × List ℕ)) (floor : ℕ)
    (ops : List Operation) (k : ℕ) : Type 0 where
  pub own : ℕ → Bool
  pub part : List (ℕ × List ℕ)
  pub owned : own k ≡ true
  pub rebuilt : HasPlaces index_key part
      (places_routed (routed (λ key. own (index_key key)) (located floor ops)))
  pub same : bucket_at entries k ≡ bucket_at part k

-- no live key has this index key, and its bucket is empty
pub record HasNoneAt (index_key : Bytes → ℕ) (entries : List (ℕ × List ℕ)) (floor : ℕ)
    (ops : List Operation) (k : ℕ) : Type 0 where
  pub none : filter (λ p. index_key p.0 == k) (pairs (live_from floor ops)) ≡ []
  pub empty : bucket_at entries k ≡ []

-- under each index key an index has a part's bucket, or none
abbrev pub IsOfParts : (Bytes → ℕ) → List (ℕ × List ℕ) → ℕ → List Operation → Type 0
IsOfParts index_key entries floor ops = (k : ℕ)
    → HasPartAt index_key entries floor ops k ⊎ HasNoneAt index_key entries floor ops k

-- where the partitions of one of so many workers begin, of so many partitions
abbrev pub begin_of : ℕ → ℕ → ℕ → ℕ
begin_of partitions workers w = w * partitions / workers

-- the partition is one of that worker's
abbrev pub has_partition : ℕ → ℕ → ℕ → ℕ → Bool
has_partition partitions workers w p =
    nat_le (begin_of partitions workers w) p && nat_lt p (begin_of partitions workers (suc w))

-- 1 if it is, else 0
abbrev pub tick : Bool → ℕ
tick true = 1
tick false = 0

-- how many of the first n workers have the partition
abbrev pub owners : ℕ → ℕ → ℕ → ℕ → ℕ
owners partitions workers p zero = 0
owners partitions workers p (suc n) =
    owners partitions workers p n + tick (has_partition partitions workers n p)

-- the worker that has the partition
abbrev pub owner_of : ℕ → ℕ → ℕ → ℕ
owner_of partitions workers p = (suc p * workers - 1) / partitions
