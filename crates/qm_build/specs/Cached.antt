-- Keys by location: what a cache keeps, in sets of slots.
use Rattle.std.specs.Prelude.{◌≡◌, ℕ, ◌*◌, ◌/◌, ◌%◌, ◌^◌, ◌<◌, ◌≤◌, min, nat_lt, ◌==◌, Bool, not, if◌then◌else◌, List, [], ◌∷◌, length, filter, Option, None, Some, IfSome, IsSomeAnd, slice_index_or}
use Rattle.qm_model.specs.Operations.{Bytes, Operation}
use Rattle.qm_build.specs.Building.{key_at}

-- how many slots a set has, of a cache of this capacity
abbrev pub ways_of : ℕ → ℕ
ways_of capacity = min 16 capacity

-- how many sets there are
abbrev pub sets_of : ℕ → ℕ
sets_of capacity = capacity / ways_of capacity

-- the set of a location, of so many
unfoldable pub set_of : ℕ → ℕ → ℕ
set_of sets location = (location * 11400714819323198485 % 2 ^ 64) * sets / 2 ^ 64

-- keys, each with its location, in ascending order of these
abbrev pub Kept : Type 0 → Type 0
Kept K = List (ℕ × K)

-- what a cache is: how many slots each of its sets has, how many sets there are, and the keys that it keeps
pub record Cached (K : Type 0) : Type 0 where
  pub ways : ℕ
  pub sets : ℕ
  pub kept : Kept K

-- a cache of a capacity, without a key
abbrev pub empty_cache : {K : Type 0} → ℕ → Cached K
empty_cache capacity = record { ways = ways_of capacity; sets = sets_of capacity; kept = [] }

-- the key for a location
abbrev pub key_for : {K : Type 0} → Kept K → ℕ → Option K
key_for [] at = None
key_for (e ∷ es) at = if e.0 == at then Some e.1 else key_for es at

-- without the key for a location
abbrev pub without : {K : Type 0} → ℕ → Kept K → Kept K
without at kept = filter (λ e. not (e.0 == at)) kept

-- with a key for a location, in the place of the one that is there
abbrev pub with_key : {K : Type 0} → ℕ → K → Kept K → Kept K
with_key at key [] = (at, key) ∷ []
with_key at key (e ∷ es) =
    if nat_lt at e.0 then (at, key) ∷ e ∷ es
    else if at == e.0 then (at, key) ∷ es
    else e ∷ with_key at key es

-- the keys of one set, of so many
abbrev pub in_set : {K : Type 0} → ℕ → ℕ → Kept K → Kept K
in_set sets set kept = filter (λ e. set_of sets e.0 == set) kept

-- the smallest location of these, which stands first
abbrev pub smallest : {K : Type 0} → Kept K → ℕ
smallest [] = 0
smallest (e ∷ es) = e.0

-- with room in a set of so many slots: in a full one the key of the smallest location leaves
abbrev pub with_room : {K : Type 0} → ℕ → ℕ → ℕ → Kept K → Kept K
with_room ways sets set kept =
    if nat_lt (length (in_set sets set kept)) ways then kept
    else without (smallest (in_set sets set kept)) kept

-- what a cache gives for a location
abbrev pub given : {K : Type 0} → Cached K → ℕ → Option K
given c at = key_for c.kept at

-- a cache after a key was put in: it takes the place of that of its own location, or else the room that its set has, or is made there
abbrev pub put : {K : Type 0} → Cached K → ℕ → K → Cached K
put c at key = record c { kept = with_key at key (with_room c.ways c.sets (set_of c.sets at) (without at c.kept)) }

-- a cache after the key for a location was taken out
abbrev pub removed : {K : Type 0} → Cached K → ℕ → Cached K
removed c at = record c { kept = without at c.kept }

-- a cache that lets go of the key for a location, if there is one
abbrev pub let_go : {K : Type 0} → Cached K → Option ℕ → Cached K
let_go c None = c
let_go c (Some at) = removed c at

-- a cache that lets go of a key, and keeps another if it is told to
abbrev pub kept_on : {K : Type 0} → Cached K → Option ℕ → Bool → ℕ → K → Cached K
kept_on c found keeps at key = if keeps then put (let_go c found) at key else let_go c found

-- each key that a cache gives is that of the update at its location
abbrev pub AreKeys : {K : Type 0} → (K → Bytes) → List Operation → Cached K → Type 0
AreKeys {K} bytes ops cache = (at : ℕ) (key : K) → given cache at ≡ Some key → key_at ops at ≡ Some (bytes key)

-- the keys in slots
abbrev pub kept_in : {K : Type 0} → List (Option (ℕ × K)) → Kept K
kept_in [] = []
kept_in (None ∷ slots) = kept_in slots
kept_in (Some e ∷ slots) = with_key e.0 e.1 (kept_in slots)

-- a slot is empty, or another has no smaller location
abbrev pub IsFirst : {K : Type 0} → Option (ℕ × K) → Option (ℕ × K) → Type 0
IsFirst slot other = IfSome slot (λ p. IsSomeAnd other (λ q. p.0 ≤ q.0))

-- each set has so many slots in a row, a key is in a slot of the set of its location, and no location is in two slots
pub record AreSlots {K : Type 0} (ways sets : ℕ) (slots : List (Option (ℕ × K))) : Type 0 where
  pub some_ways : 0 < ways
  pub some_sets : 0 < sets
  pub long : length slots ≡ sets * ways
  pub placed : (i : ℕ) → IfSome (slice_index_or slots i None) (λ p. i / ways ≡ set_of sets p.0)
  pub apart : (i j : ℕ) (p q : ℕ × K) → slice_index_or slots i None ≡ Some p → slice_index_or slots j None ≡ Some q → p.0 ≡ q.0 → i ≡ j
