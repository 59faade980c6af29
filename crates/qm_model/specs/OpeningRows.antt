-- Openings of whole and of damaged stores, computed.
use Rattle.std.specs.Prelude.{◌≡◌, ℕ, zero, suc, true, ◌+◌, ◌*◌, ◌^◌, List, [], ◌∷◌, length, map, drop, replicate, Some, None, Option, refl, codes}
use Rattle.std.specs.Int.Count.{count_leading_zeros}
use Rattle.qm_model.specs.Operations.{Bytes, Operation, update, commit, fresh, four_bytes, eight_bytes}
use Rattle.qm_model.specs.Forms.{variable, spelling, number_of_four, number_of_eight}
use Rattle.qm_model.specs.Live.{floor}
use Rattle.qm_model.specs.Writes.{Write}
use Rattle.qm_model.specs.Policies.{policies, proportional}
use Rattle.qm_model.specs.Step.{unordered, step}
use Rattle.qm_model.specs.Mmr.{mmr, digits_below}
use Rattle.qm_model.specs.Mmb.{mmb}
use Rattle.qm_model.specs.StoreModel.{Entry, Stored, left_at}
use Rattle.qm_model.specs.Refused.{CountNotValid, CountTooLarge, MissingPin, InvalidPin, NoRetainedCommit, FloorExceedsCommit, PrunedPastBits, HeadDoesNotMatch, ItemDoesNotDecode, LinksFormNoRing}
use Rattle.qm_model.specs.Refused.{InvalidInitializationBound, HistoricalFloorPruned, DataCorrupted}
use Rattle.qm_model.specs.Opening.{Layout, Opening, refuses, opens, opening, found, metadata_key}
use lib.Count.{ones, ones_in}

-- unordered, ordered and current databases with digests of 32 bytes and, if they have some, chunks of 32 bytes
abbrev any : Layout
any = record { form = variable; shape = mmr; digest_size = 32; chunks = None }

abbrev ordered : Layout
ordered = record any { form = record variable { ordered = true } }

abbrev current : Layout
current = record any { chunks = Some (record { height = 8; name = codes "grafted" }) }

abbrev delayed : Layout
delayed = record current { shape = mmb }

-- a store with these items from a location on
abbrev store : ℕ → List Bytes → Stored
store start items = record { start = start; items = items; head = []; metadata = []; stable = start + length items; ends = []; past = [] }

-- with so many pins in its head
abbrev with_pins : ℕ → Stored → Stored
with_pins n s = record s { head = replicate (n * 32) 0 }

-- with entries of the metadata that a current database reads
abbrev with_entries : List Entry → Stored → Stored
with_entries entries s = record s { metadata = record { name = codes "grafted"; entries = entries } ∷ [] }

abbrev counts : Bytes → Entry
counts value = record { key = metadata_key 1 0; value = value }

abbrev pin : ℕ → ℕ → Entry
pin i size = record { key = metadata_key 0 i; value = replicate size 0 }

abbrev opened : Layout → Stored → Option ℕ → Opening
opened layout s bound = opening layout (found layout s) bound

-- a commit of this floor, an update, and one that names the next key
abbrev ends : ℕ → Bytes
ends floor = spelling variable (commit None floor)

abbrev puts : Bytes
puts = spelling variable (update (107 ∷ []) (118 ∷ []) None)

abbrev links : ℕ → ℕ → Bytes
links key next = spelling (record variable { ordered = true }) (update (key ∷ []) (1 ∷ []) (Some (next ∷ [])))

abbrev foreign : Bytes
foreign = 255 ∷ []

-- two updates between two commits, of which the last has the first of them below its floor
abbrev four_items : Stored
four_items = store 0 (ends 0 ∷ puts ∷ puts ∷ ends 2 ∷ [])

-- the empty store is opened as the fresh list
empty_store : opened any (store 0 []) None ≡ opens 0
unfolding digits_below four_bytes eight_bytes number_of_four number_of_eight ones ones_in
empty_store = refl

-- up to each bound but 0
empty_store_bounded : opened any (store 0 []) (Some 7) ≡ opens 0
unfolding digits_below four_bytes eight_bytes number_of_four number_of_eight ones ones_in
empty_store_bounded = refl

-- an item that spells nothing after a commit is cut
foreign_item_last : opened any (store 0 (ends 0 ∷ puts ∷ puts ∷ foreign ∷ [])) None ≡ opens 1
unfolding digits_below four_bytes eight_bytes number_of_four number_of_eight ones ones_in
foreign_item_last = refl

-- no commit
no_commit : opened any (store 0 (puts ∷ [])) None ≡ refuses (DataCorrupted NoRetainedCommit)
unfolding digits_below four_bytes eight_bytes number_of_four number_of_eight ones ones_in
no_commit = refl

-- a floor above its commit
floor_past_commit : opened any (store 0 (ends 0 ∷ ends 5 ∷ [])) None ≡ refuses (DataCorrupted FloorExceedsCommit)
unfolding digits_below four_bytes eight_bytes number_of_four number_of_eight ones ones_in
floor_past_commit = refl

-- a start without a head
no_head : opened any (store 2 (ends 2 ∷ [])) None ≡ refuses (DataCorrupted HeadDoesNotMatch)
unfolding digits_below four_bytes eight_bytes number_of_four number_of_eight ones ones_in
no_head = refl

-- and with one
a_head : opened any (with_pins 1 (store 2 (ends 2 ∷ []))) None ≡ opens 3
unfolding digits_below four_bytes eight_bytes number_of_four number_of_eight ones ones_in
a_head = refl

-- a floor below the start
floor_below_start : opened any (store 2 (puts ∷ ends 1 ∷ [])) None ≡ refuses (HistoricalFloorPruned 4)
unfolding digits_below four_bytes eight_bytes number_of_four number_of_eight ones ones_in
floor_below_start = refl

-- an item that spells nothing before the commit
foreign_item : opened any (store 0 (ends 0 ∷ foreign ∷ ends 0 ∷ [])) None ≡ refuses (DataCorrupted ItemDoesNotDecode)
unfolding digits_below four_bytes eight_bytes number_of_four number_of_eight ones ones_in
foreign_item = refl

-- the same below the floor
foreign_item_below : opened any (store 0 (ends 0 ∷ foreign ∷ ends 2 ∷ [])) None ≡ opens 3
unfolding digits_below four_bytes eight_bytes number_of_four number_of_eight ones ones_in
foreign_item_below = refl

-- links that form no ring
no_ring : opened ordered (store 0 (ends 0 ∷ links 97 99 ∷ links 99 98 ∷ ends 0 ∷ [])) None ≡ refuses (DataCorrupted LinksFormNoRing)
unfolding digits_below four_bytes eight_bytes number_of_four number_of_eight ones ones_in
no_ring = refl

-- and links that do
a_ring : opened ordered (store 0 (ends 0 ∷ links 97 99 ∷ links 99 97 ∷ ends 0 ∷ [])) None ≡ opens 4
unfolding digits_below four_bytes eight_bytes number_of_four number_of_eight ones ones_in
a_ring = refl

-- an update without a next key in an ordered database
unordered_in_ordered : opened ordered (store 0 (ends 0 ∷ puts ∷ ends 0 ∷ [])) None ≡ refuses (DataCorrupted ItemDoesNotDecode)
unfolding digits_below four_bytes eight_bytes number_of_four number_of_eight ones ones_in
unordered_in_ordered = refl

-- the last commit below a bound
below_the_bound : opened any four_items (Some 3) ≡ opens 1
unfolding digits_below four_bytes eight_bytes number_of_four number_of_eight ones ones_in
below_the_bound = refl

-- a commit of the bound's size
at_the_bound : opened any four_items (Some 4) ≡ opens 4
unfolding digits_below four_bytes eight_bytes number_of_four number_of_eight ones ones_in
at_the_bound = refl

-- a bound below the start
bound_below_start : opened any (store 2 (ends 2 ∷ [])) (Some 2) ≡ refuses (DataCorrupted NoRetainedCommit)
unfolding digits_below four_bytes eight_bytes number_of_four number_of_eight ones ones_in
bound_below_start = refl

-- a bound of 0 comes first
bound_zero : opened current (with_entries (counts (drop 1 (eight_bytes 0)) ∷ []) four_items) (Some 0) ≡ refuses InvalidInitializationBound
unfolding digits_below four_bytes eight_bytes number_of_four number_of_eight ones ones_in
bound_zero = refl

-- a count of 7 bytes
short_count : opened current (with_entries (counts (drop 1 (eight_bytes 0)) ∷ []) four_items) None ≡ refuses (DataCorrupted CountNotValid)
unfolding digits_below four_bytes eight_bytes number_of_four number_of_eight ones ones_in
short_count = refl

-- an any database looks at no metadata
any_with_metadata : opened any (with_entries (counts (drop 1 (eight_bytes 0)) ∷ []) four_items) None ≡ opens 4
unfolding digits_below four_bytes eight_bytes number_of_four number_of_eight ones ones_in
any_with_metadata = refl

-- a count that is too large
large_count : opened current (with_entries (counts (eight_bytes (2 ^ 54 + 1)) ∷ []) four_items) None ≡ refuses (DataCorrupted CountTooLarge)
unfolding digits_below four_bytes eight_bytes number_of_four number_of_eight ones ones_in
large_count = refl

-- and the largest, without its pin
largest_count : opened current (with_entries (counts (eight_bytes (2 ^ 54)) ∷ []) four_items) None ≡ refuses (DataCorrupted MissingPin)
unfolding digits_below four_bytes eight_bytes number_of_four number_of_eight ones ones_in
largest_count = refl

-- no pin
missing_pin : opened current (with_entries (counts (eight_bytes 1) ∷ []) four_items) None ≡ refuses (DataCorrupted MissingPin)
unfolding digits_below four_bytes eight_bytes number_of_four number_of_eight ones ones_in
missing_pin = refl

-- a pin of 31 bytes
wrong_pin : opened current (with_entries (counts (eight_bytes 1) ∷ pin 0 31 ∷ []) four_items) None ≡ refuses (DataCorrupted InvalidPin)
unfolding digits_below four_bytes eight_bytes number_of_four number_of_eight ones ones_in
wrong_pin = refl

-- a missing pin is told before a wrong one
missing_before_wrong : opened current (with_entries (counts (eight_bytes 3) ∷ pin 0 31 ∷ []) four_items) None ≡ refuses (DataCorrupted MissingPin)
unfolding digits_below four_bytes eight_bytes number_of_four number_of_eight ones ones_in
missing_before_wrong = refl

-- a size below the pruned chunk
size_below_bits : opened current (with_entries (counts (eight_bytes 1) ∷ pin 0 32 ∷ []) four_items) None ≡ refuses (HistoricalFloorPruned 4)
unfolding digits_below four_bytes eight_bytes number_of_four number_of_eight ones ones_in
size_below_bits = refl

-- entries of other keys are passed over
other_entries : opened current (with_entries (record { key = metadata_key 2 0; value = 1 ∷ [] } ∷ record { key = metadata_key 1 1; value = 1 ∷ [] } ∷ []) four_items) None ≡ opens 4
unfolding digits_below four_bytes eight_bytes number_of_four number_of_eight ones ones_in
other_entries = refl

-- an empty store with a pruned chunk
empty_with_bits : opened current (with_entries (counts (eight_bytes 1) ∷ pin 0 32 ∷ []) (store 0 [])) None ≡ refuses (HistoricalFloorPruned 0)
unfolding digits_below four_bytes eight_bytes number_of_four number_of_eight ones ones_in
empty_with_bits = refl

-- a start past the chunk after the pruned ones
start_past_bits : opened current (with_pins 1 (store 256 (ends 256 ∷ []))) None ≡ refuses (DataCorrupted PrunedPastBits)
unfolding digits_below four_bytes eight_bytes number_of_four number_of_eight ones ones_in
start_past_bits = refl

-- an any database has none
any_start_past_bits : opened any (with_pins 1 (store 256 (ends 256 ∷ []))) None ≡ opens 257
unfolding digits_below four_bytes eight_bytes number_of_four number_of_eight ones ones_in
any_start_past_bits = refl

-- a start at the end of the pruned chunks
start_at_bits : opened current (with_entries (counts (eight_bytes 1) ∷ pin 0 32 ∷ []) (with_pins 1 (store 256 (ends 256 ∷ [])))) None ≡ opens 257
unfolding digits_below four_bytes eight_bytes number_of_four number_of_eight ones ones_in
start_at_bits = refl

-- a floor below the pruned chunk
floor_below_bits : opened current (with_entries (counts (eight_bytes 1) ∷ pin 0 32 ∷ []) (with_pins 6 (store 250 (ends 250 ∷ ends 250 ∷ ends 250 ∷ ends 250 ∷ ends 250 ∷ ends 250 ∷ ends 252 ∷ [])))) None ≡ refuses (HistoricalFloorPruned 257)
unfolding digits_below four_bytes eight_bytes number_of_four number_of_eight ones ones_in
floor_below_bits = refl

-- if merges are delayed, a size below what the pruned chunk asks for
unabsorbed : opened delayed (with_entries (counts (eight_bytes 1) ∷ pin 0 32 ∷ []) (store 256 (ends 256 ∷ []))) None ≡ refuses (HistoricalFloorPruned 257)
unfolding digits_below four_bytes eight_bytes number_of_four number_of_eight ones ones_in count_leading_zeros
unabsorbed = refl

-- A current database of a hundred keys, and the updates of 49 of them.

abbrev put_from : ℕ → ℕ → List Write
put_from key zero = []
put_from key (suc n) = record { key = key ∷ []; value = Some (key ∷ []) } ∷ put_from (suc key) n

abbrev hundred : List Operation
hundred = step unordered policies fresh (put_from 1 100) proportional None

abbrev updated : List Operation
updated = step unordered policies hundred (put_from 2 49) proportional None

-- the store that has them
abbrev stored : List Operation → Stored
stored list = store 0 (map (spelling variable) list)

hundred_size : length hundred ∷ floor hundred ∷ [] ≡ 103 ∷ 2 ∷ []
hundred_size = refl

updated_size : length updated ∷ floor updated ∷ [] ≡ 203 ∷ 101 ∷ []
updated_size = refl

updated_zero : opened current (stored updated) (Some 0) ≡ refuses InvalidInitializationBound
unfolding digits_below four_bytes eight_bytes number_of_four number_of_eight ones ones_in
updated_zero = refl

-- up to the first size the first list is opened, and not below it
updated_first : opened current (stored updated) (Some 103) ≡ opens 103
unfolding digits_below four_bytes eight_bytes number_of_four number_of_eight ones ones_in
updated_first = refl

updated_below : opened current (stored updated) (Some 102) ≡ opens 1
unfolding digits_below four_bytes eight_bytes number_of_four number_of_eight ones ones_in
updated_below = refl

-- without a bound all of it, and after a crash that left 150 operations the first list
updated_whole : opened current (stored updated) None ≡ opens 203
unfolding digits_below four_bytes eight_bytes number_of_four number_of_eight ones ones_in
updated_whole = refl

updated_left : opened current (left_at 150 (stored updated)) None ≡ opens 103
unfolding digits_below four_bytes eight_bytes number_of_four number_of_eight ones ones_in
updated_left = refl
