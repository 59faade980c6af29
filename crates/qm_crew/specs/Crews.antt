-- Crews that mark, and the places of all their lists.
use Rattle.std.specs.Prelude.{◌≡◌, ◌↔◌, ℕ, ◌+◌, ◌*◌, ◌/◌, ◌<◌, List, [], map, length, All, Any, Contains, Vec}
use Rattle.std.specs.Global.{Global}
use Rattle.atomic_table.specs.Seated.{TableId}
use Rattle.qm_crew.specs.declared.crew.Marker.{Marker}
use Rattle.qm_crew.specs.Views.{worker, IsSet}

-- the places lie within so many words
abbrev pub AreWithin : ℕ → List ℕ → Type 0
AreWithin words places = All (λ p. p / 64 < words) places

-- a member with a seat of its own at this table, which has marked nothing yet
pub record IsReady (table : TableId) (m : Marker) : Type 0 where
  pub seated : m.seat.table_id ≡ table
  pub fresh : m.seat.me ≡ (worker [], [])
  pub within : AreWithin table.words m.places.items

-- a member that has marked each of its places, and nothing else
pub record IsDone (table : TableId) (m : Marker) : Type 0 where
  pub seated : m.seat.table_id ≡ table
  pub marked : m.seat.me ≡ (worker m.places.items, [])

-- the places of each member
abbrev pub places_of : List Marker → List (List ℕ)
places_of crew = map (λ m. m.places.items) crew

-- the places of each list
abbrev pub places_in : List (Vec ℕ Global) → List (List ℕ)
places_in lists = map (λ l. l.items) lists

-- a bit is set exactly if some list has its place
abbrev pub AreUnion : List ℕ → List (List ℕ) → Type 0
AreUnion words lists = (word bit : ℕ) → word < length words → bit < 64
    → IsSet words word bit ↔ Any (λ l. Contains l (64 * word + bit)) lists

-- the places of a list are those of all these lists
abbrev pub AreFrom : List ℕ → List (List ℕ) → Type 0
AreFrom places lists = (p : ℕ) → Contains places p ↔ Any (λ l. Contains l p) lists

-- each member has marked each of its places
pub record AreMarked (table : TableId) (old new : List Marker) : Type 0 where
  pub long : length new ≡ length old
  pub done : All (IsDone table) new
  pub same : places_of new ≡ places_of old
