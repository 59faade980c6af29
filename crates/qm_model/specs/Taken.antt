-- What an opening makes of a store, and a prune, by a scheme.
use Rattle.std.specs.Prelude.{◌≡◌, ◌-◌, ◌⊎◌, ◌<◌, ℕ, zero, suc, min, nat_lt, if◌then◌else◌, List, length, map, take, drop, All, true, false, Option, None, Some, bytes_eq, ⊤}
use Rattle.std.specs.Option.{option_map_or}
use Rattle.std.specs.List.{concat}
use Rattle.qm_model.specs.Operations.{Bytes, Operation, fresh}
use Rattle.qm_model.specs.Forms.{IsOf, spelling}
use Rattle.qm_model.specs.Ordered.{IsRing}
use Rattle.qm_model.specs.Proofs.{pins_at}
use Rattle.qm_model.specs.Step.{IsGood}
use Rattle.qm_model.specs.Opening.{Chunks, found, selected, size_of, count_in, entries_of, pins_found}
use Rattle.qm_model.specs.Grafted.{metadata, grafted_pins}
use Rattle.qm_model.specs.StoreModel.{Named, Stored, metadata_in, with_metadata, end_of, appended, settled, rewound, pruned, HasAppended, RewindLeaves, IsImage, IsOldOrNew, ReadsAs}
use Rattle.qm_model.specs.Schemes.{Scheme, layout_of, chunks_of, chunks_after}

-- the pins of what a list has before a location, one after another
abbrev pub head_at : Scheme → List Operation → ℕ → Bytes
head_at m list to = concat (pins_at m.hash m.shape m.form (take to list) to)

-- a store has the pins of the grafted tree of this list over as many chunks as its metadata counts; an any database has none
abbrev pub HasPins : Option Chunks → Scheme → Stored → List Operation → Type 0
HasPins None m s list = ⊤
HasPins (Some c) m s list =
    let entries = metadata_in s.metadata c.name in
    pins_found m.shape entries (count_in entries) ≡ map (λ pin. Some pin) (grafted_pins m.hash m.shape c.height m.form list (count_in entries))

-- a store has a list of such databases up to a size: its items from the start on, and the pins of what stands before it
pub record HasList (m : Scheme) (s : Stored) (size : ℕ) (list : List Operation) : Type 0 where
  pub size_is : length list ≡ size
  pub of : All (IsOf m.form) list
  pub good : IsGood list
  pub items : take (size - s.start) s.items ≡ drop s.start (map (spelling m.form) list)
  pub head : s.head ≡ head_at m list s.start
  pub grafted : HasPins (chunks_of m) m s list

-- the list that is taken up if this number of items is selected, the fresh one if none are; the links of an ordered one form a ring
abbrev pub IsTaken : Scheme → Stored → ℕ → List Operation → Type 0
IsTaken m s zero list = list ≡ fresh
IsTaken m s (suc n) list = HasList m s (suc n) list × (m.form.ordered ≡ true → IsRing list)

-- how many items an opening up to a bound selects
abbrev pub selected_size : Scheme → Option ℕ → Stored → ℕ
selected_size m bound s = size_of (selected (found (layout_of m) s) bound)

-- a store after it: what follows the list is gone, and all is stable
abbrev pub taken : Scheme → ℕ → Stored → Stored
taken m zero s = settled (appended (map (spelling m.form) fresh) s)
taken m (suc n) s = settled (rewound (suc n) s)

-- and after one that failed
abbrev pub LeavesOpening : Scheme → ℕ → Stored → Stored → Type 0
LeavesOpening m zero s new = HasAppended (map (spelling m.form) fresh) s new
LeavesOpening m (suc n) s new = ReadsAs (min s.stable (suc n)) (RewindLeaves (suc n) s) new

-- Chunks that are pruned.

-- how many the metadata of a current database's store counts
abbrev pub counted_in : Scheme → Stored → ℕ
counted_in m s = option_map_or (λ c. count_in (metadata_in s.metadata c.name)) (chunks_of m) 0

-- a store whose metadata counts this number of a list's chunks, with their pins; an any database writes none
abbrev pub with_count : Scheme → List Operation → ℕ → Stored → Stored
with_count m list count s = option_map_or (λ c. with_metadata c.name (entries_of (metadata m.hash m.shape c.height m.form list count)) s) (chunks_of m) s

-- The metadata that calls do not write stays: that of every name but the one that counts chunks.
abbrev pub StayNamed : Option Chunks → List Named → List Named → Type 0
StayNamed None old new = new ≡ old
StayNamed (Some c) old new = (name : Bytes) → bytes_eq name c.name ≡ false → metadata_in new name ≡ metadata_in old name

-- Calls put no other metadata, and no restart chose an end.
pub record StaysBeside (m : Scheme) (s new : Stored) : Type 0 where
  pub metadata : StayNamed (chunks_of m) s.metadata new.metadata
  pub ends : new.ends ≡ s.ends

-- a store after a sync of a list: all is stable, and what metadata counts of it is written anew
abbrev pub synced : Scheme → List Operation → Stored → Stored
synced m list s = with_count m list (counted_in m s) (settled s)

-- and after one that failed: what was stable stays, or all, with the metadata before or after
abbrev pub LeavesSync : Scheme → List Operation → Stored → Stored → Type 0
LeavesSync m list s new = ReadsAs s.stable (IsImage s) new ⊎ ReadsAs (end_of s) (IsOldOrNew (with_count m list (counted_in m s)) (settled s)) new

-- a store of a list before its prune to a location: all is stable, and metadata counts the chunks below the location too
abbrev pub before_prune : Scheme → List Operation → ℕ → Stored → Stored
before_prune m list to s = with_count m list (chunks_after m.grafts (counted_in m s) to) (settled s)

-- and after it, with this head; it starts where it did if that is there or after it
abbrev pub after_prune : Scheme → List Operation → ℕ → ℕ → Bytes → Stored → Stored
after_prune m list start to head s = if nat_lt start to then pruned to head (before_prune m list to s) else before_prune m list to s

-- and after one that failed: what was stable stays; or all, with the metadata before or after; or, if the location is after the start,
-- all of it with that metadata, pruned or not
abbrev pub LeavesPrune : Scheme → List Operation → ℕ → (Bytes → Type 0) → ℕ → Stored → Stored → Type 0
LeavesPrune m list start IsHead to s new =
    ReadsAs s.stable (IsImage s) new
    ⊎ (ReadsAs (end_of s) (IsOldOrNew (with_count m list (chunks_after m.grafts (counted_in m s) to)) (settled s)) new
    ⊎ ((start < to) × (head : Bytes) × IsHead head × ReadsAs (end_of s) (IsOldOrNew (pruned to head) (before_prune m list to s)) new))
