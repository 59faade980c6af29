-- Opening a store: the commit that is selected, and the checks in their order.
use Rattle.std.specs.Prelude.{ℕ, zero, suc, ◌-◌, ◌*◌, ◌/◌, ◌^◌, ◌==◌, ◌&&◌, nat_lt, Bool, true, false, not, List, [], ◌∷◌, length, take, drop, map, filter_map, find, Option, None, Some, is_none, option_map, option_and_then, unwrap_or, bytes_eq}
use Rattle.std.specs.List.{list_any, list_all}
use Rattle.std.specs.Option.{option_or, option_map_or}
use Rattle.qm_model.specs.Operations.{Bytes, Operation, fresh, eight_bytes}
use Rattle.qm_model.specs.Forms.{Form, decoded, number_of_eight}
use Rattle.qm_model.specs.Live.{Live, live, live_keys}
use Rattle.qm_model.specs.Keys.{successor}
use Rattle.qm_model.specs.Trees.{Shape, peaks}
use Rattle.qm_model.specs.Grafted.{pair_absorption_threshold}
use Rattle.qm_model.specs.StoreModel.{Entry, Stored, metadata_in}
use Rattle.qm_model.specs.Refused.{Corrupt, CountNotValid, CountTooLarge, MissingPin, InvalidPin, NoRetainedCommit, FloorExceedsCommit, PrunedPastBits, HeadDoesNotMatch, ItemDoesNotDecode, LinksFormNoRing}
use Rattle.qm_model.specs.Refused.{Refused, InvalidInitializationBound, HistoricalFloorPruned, DataCorrupted}
use Rattle.qm_model.specs.Refusals.{commit_floor}

-- the chunks of a current database's bits: one has 2 ^ height locations, and their metadata has a name
pub record Chunks : Type 0 where
  pub height : ℕ
  pub name : Bytes

-- how a database lies in a store: how its operations are spelled, the family of its trees, how many bytes a digest has,
-- and its chunks, if it is a current one
pub record Layout : Type 0 where
  pub form : Form
  pub shape : Shape
  pub digest_size : ℕ
  pub chunks : Option Chunks

-- what an opening finds: where the items start, each as an operation, none if it spells none; the head; why the
-- metadata cannot be read, if it cannot, and how many chunks are pruned by it
pub record Found : Type 0 where
  pub start : ℕ
  pub items : List (Option Operation)
  pub head : Bytes
  pub metadata : Option Corrupt
  pub count : ℕ

-- What is selected.

-- a commit: the size of the list that ends with it, and its floor
pub record Selected : Type 0 where
  pub size : ℕ
  pub floor : ℕ

-- the commit that stands at location i, if one does
abbrev pub commit_at : ℕ → Option Operation → Option Selected
commit_at i item = option_map (λ f. record { size = suc i; floor = f }) (option_and_then commit_floor item)

-- the last commit of items from location i on, or else the one before them
abbrev pub last_commit : ℕ → Option Selected → List (Option Operation) → Option Selected
last_commit i before [] = before
last_commit i before (item ∷ items) = last_commit (suc i) (option_or (commit_at i item) before) items

-- the items that stand below a bound
abbrev pub below_bound : Option ℕ → Found → List (Option Operation)
below_bound None f = f.items
below_bound (Some bound) f = take (bound - f.start) f.items

-- the last commit that is kept, of a size at most the bound
abbrev pub selected : Found → Option ℕ → Option Selected
selected f bound = last_commit f.start None (below_bound bound f)

-- its size and its floor, and 0 if there is none
abbrev pub size_of : Option Selected → ℕ
size_of at = option_map_or (λ c. c.size) at 0

abbrev pub floor_of : Option Selected → ℕ
floor_of at = option_map_or (λ c. c.floor) at 0

-- a store that starts at 0 and has no items is opened as the fresh list
abbrev pub is_empty : Found → Bool
is_empty f = f.start == 0 && length f.items == 0

-- The metadata of a current database: how many chunks are pruned, and the pins of the grafted tree there.

-- a prefix and a number
abbrev pub metadata_key : ℕ → ℕ → Bytes
metadata_key prefix n = prefix ∷ eight_bytes n

-- the value of a key
abbrev pub entry_of : List Entry → Bytes → Option Bytes
entry_of entries key = option_map (λ e. e.value) (find (λ e. bytes_eq e.key key) entries)

-- the bytes of the count, those of 0 if there is none
abbrev pub count_bytes : List Entry → Bytes
count_bytes entries = unwrap_or (entry_of entries (metadata_key 1 0)) (eight_bytes 0)

-- entries of keys and values
abbrev pub entries_of : List (Bytes × Bytes) → List Entry
entries_of pairs = map (λ p. record { key = p.0; value = p.1 }) pairs

-- how many chunks are pruned
abbrev pub count_in : List Entry → ℕ
count_in entries = number_of_eight (count_bytes entries)

-- the pins of these peaks, numbered from i on, each if it is there
abbrev pub numbered_pins : {A : Type 0} → List Entry → ℕ → List A → List (Option Bytes)
numbered_pins entries i [] = []
numbered_pins entries i (peak ∷ peaks) = entry_of entries (metadata_key 0 i) ∷ numbered_pins entries (suc i) peaks

-- of the peaks over so many chunks
abbrev pub pins_found : Shape → List Entry → ℕ → List (Option Bytes)
pins_found shape entries count = numbered_pins entries 0 (peaks shape count)

-- so many locations lie in this many pruned chunks
abbrev pub pruned_bits : Option Chunks → ℕ → ℕ
pruned_bits chunks count = option_map_or (λ c. count * 2 ^ c.height) chunks 0

-- a pin has another size than a digest
abbrev pub is_wrong_size : ℕ → Option Bytes → Bool
is_wrong_size size None = false
is_wrong_size size (Some pin) = not (length pin == size)

-- The checks.

-- a refusal, if something holds
abbrev pub when : {A : Type 0} → Bool → A → Option A
when false r = None
when true r = Some r

-- the first that is refused
abbrev pub first_refusal : {A : Type 0} → List (Option A) → Option A
first_refusal [] = None
first_refusal (r ∷ rs) = option_or r (first_refusal rs)

-- why the metadata cannot be read
abbrev pub metadata_refusal : Layout → List Entry → Option Corrupt
metadata_refusal layout entries =
    let pins = pins_found layout.shape entries (count_in entries) in
    first_refusal (
    when (not (length (count_bytes entries) == 8)) CountNotValid
    ∷ when (nat_lt (2 ^ 62) (pruned_bits layout.chunks (count_in entries))) CountTooLarge
    ∷ when (list_any is_none pins) MissingPin
    ∷ when (list_any (is_wrong_size layout.digest_size) pins) InvalidPin
    ∷ [])

-- what an opening finds in a store; an any database looks at no metadata
abbrev pub found_with : Layout → Stored → Option Chunks → Found
found_with layout s None = record { start = s.start; items = map (decoded layout.form) s.items; head = s.head; metadata = None; count = 0 }
found_with layout s (Some c) =
    let entries = metadata_in s.metadata c.name in
    record { start = s.start; items = map (decoded layout.form) s.items; head = s.head; metadata = metadata_refusal layout entries; count = count_in entries }

abbrev pub found : Layout → Stored → Found
found layout s = found_with layout s layout.chunks

-- no commit is kept, or the selected one's floor is above it
abbrev pub commit_refusal : Bool → Option Selected → Option Corrupt
commit_refusal is_empty None = when (not is_empty) NoRetainedCommit
commit_refusal is_empty (Some c) = when (nat_lt (c.size - 1) c.floor) FloorExceedsCommit

-- the size is below what so many pruned chunks ask for
abbrev pub is_unabsorbed : Shape → Option Chunks → ℕ → ℕ → Bool
is_unabsorbed shape None size count = false
is_unabsorbed shape (Some c) size count = option_map_or (λ least. nat_lt size least) (pair_absorption_threshold shape c.height count) false

-- the start's chunk is past the one after the pruned ones
abbrev pub is_past_bits : Option Chunks → ℕ → ℕ → Bool
is_past_bits None start count = false
is_past_bits (Some c) start count = nat_lt count (start / 2 ^ c.height)

-- the items from a floor up to a size
abbrev pub items_between : Found → ℕ → ℕ → List (Option Operation)
items_between f floor size = drop (floor - f.start) (take (size - f.start) f.items)

abbrev pub same_key : Option Bytes → Bytes → Bool
same_key None k = false
same_key (Some j) k = bytes_eq j k

-- each live update names the next live key
abbrev pub is_link : List Bytes → Live → Bool
is_link keys e = option_map_or (same_key e.next) (successor keys e.key) false

abbrev pub is_ring : List Operation → Bool
is_ring ops = list_all (is_link (live_keys ops)) (live ops)

-- the checks of an opening up to a bound, in their order; if a floor is pruned, the selected size is told
abbrev pub checks : Layout → Found → Option ℕ → List (Option Refused)
checks layout f bound =
    let at = selected f bound in
    let size = size_of at in
    let floor = floor_of at in
    let bits = pruned_bits layout.chunks f.count in
    let items = items_between f floor size in
    when (option_map_or (λ n. n == 0) bound false) InvalidInitializationBound
    ∷ option_map DataCorrupted f.metadata
    ∷ when (nat_lt size bits) (HistoricalFloorPruned size)
    ∷ option_map DataCorrupted (commit_refusal (is_empty f) at)
    ∷ when (nat_lt floor f.start) (HistoricalFloorPruned size)
    ∷ when (nat_lt floor bits) (HistoricalFloorPruned size)
    ∷ when (is_unabsorbed layout.shape layout.chunks size f.count) (HistoricalFloorPruned size)
    ∷ when (is_past_bits layout.chunks f.start f.count) (DataCorrupted PrunedPastBits)
    ∷ when (not (length f.head == layout.digest_size * length (peaks layout.shape f.start))) (DataCorrupted HeadDoesNotMatch)
    ∷ when (list_any is_none items) (DataCorrupted ItemDoesNotDecode)
    ∷ when (layout.form.ordered && not (is_ring (filter_map (λ item. item) items))) (DataCorrupted LinksFormNoRing)
    ∷ []

-- why a store is not opened: the first check that fails
abbrev pub opening_refusal : Layout → Found → Option ℕ → Option Refused
opening_refusal layout f bound = first_refusal (checks layout f bound)

-- What an opening comes to.

-- a refusal, or the size of the list that is opened, 0 if that is the fresh one
pub data Opening : Type 0 where
  refuses : Refused → Opening
  opens : ℕ → Opening

abbrev pub opening_of : Option Refused → ℕ → Opening
opening_of (Some r) size = refuses r
opening_of None size = opens size

abbrev pub opening : Layout → Found → Option ℕ → Opening
opening layout f bound = opening_of (opening_refusal layout f bound) (size_of (selected f bound))

-- the list that is opened of a store's list
abbrev pub opened_list : ℕ → List Operation → List Operation
opened_list zero list = fresh
opened_list (suc n) list = take (suc n) list
