-- What an opening finds of commits, and what it then refuses.
use Rattle.std.specs.Prelude.{◌≡◌, ◌≤◌, ◌<◌, ℕ, ◌-◌, ◌*◌, ◌^◌, ◌==◌, not, ◌&&◌, nat_lt, Bool, false, if◌then◌else◌, List, ◌∷◌, [], length, map, filter_map, take, is_none, Option, None, Some, IfSome, slice_get, option_map, option_and_then}
use Rattle.std.specs.List.{list_any}
use Rattle.std.specs.Option.{option_map_or}
use Rattle.qm_model.specs.Operations.{Operation}
use Rattle.qm_model.specs.Forms.{Form, decoded}
use Rattle.qm_model.specs.Grafted.{pair_absorption_threshold}
use Rattle.qm_model.specs.Trees.{Shape, peaks}
use Rattle.qm_model.specs.Opening as opening
use Rattle.qm_model.specs.Opening.{Chunks, Layout, Found, when, first_refusal, size_of, floor_of, pruned_bits, is_past_bits, items_between, is_ring, opening_refusal}
use Rattle.qm_model.specs.Refused.{Refused, NoRetainedCommit, FloorExceedsCommit, PrunedPastBits, HeadDoesNotMatch, ItemDoesNotDecode, LinksFormNoRing, HistoricalFloorPruned, DataCorrupted}
use Rattle.qm_model.specs.Refusals.{commit_floor}
use Rattle.qm_model.specs.StoreModel.{Stored}
use Rattle.qm_open.specs.declared.pruned.Pruned.{Pruned}
use Rattle.qm_open.specs.declared.select.Selected.{Selected}

abbrev pub selected_view : Selected → opening.Selected
selected_view s = record { size = s.size; floor = s.floor }

-- the items that a store keeps as operations, none if one spells none
abbrev pub kept_items : Form → Stored → List (Option Operation)
kept_items form s = map (decoded form) s.items

-- those that stand below a bound
abbrev pub up_to : Option ℕ → Stored → List (Option Operation) → List (Option Operation)
up_to None s items = items
up_to (Some bound) s items = take (bound - s.start) items

-- the chunks of a layout, of which some are pruned; what their metadata is named tells nothing once that is read
abbrev pub chunks_of : Option Pruned → Option Chunks
chunks_of pruned = option_map (λ p. record { height = p.height; name = [] }) pruned

-- how many chunks are pruned, and how many bits these have
abbrev pub count_of : Option Pruned → ℕ
count_of pruned = option_map_or (λ p. p.chunks) pruned 0

abbrev pub bits_of : Option Pruned → ℕ
bits_of pruned = pruned_bits (chunks_of pruned) (count_of pruned)

-- these are at most 2 ^ 62
abbrev pub AreFew : Option Pruned → Type 0
AreFew pruned = IfSome pruned (λ p. (p.height < 62) × (p.chunks * 2 ^ p.height ≤ 2 ^ 62))

-- the threshold is that of so many chunks under trees of this shape
abbrev pub HasThreshold : Shape → Option Pruned → Type 0
HasThreshold shape pruned = IfSome pruned (λ p. p.threshold ≡ pair_absorption_threshold shape p.height p.chunks)

-- a list of this size is below the threshold
abbrev pub is_below_threshold : Option Pruned → ℕ → Bool
is_below_threshold None size = false
is_below_threshold (Some p) size = option_map_or (λ least. nat_lt size least) p.threshold false

-- how a database lies in a store of which these chunks are pruned; one without chunks has none
abbrev pub layout_of : Form → Shape → ℕ → Option Pruned → Layout
layout_of form shape digest_size pruned = record { form = form; shape = shape; digest_size = digest_size; chunks = chunks_of pruned }

-- what an opening finds there, whose metadata is read
abbrev pub found_of : Form → Stored → Option Pruned → Found
found_of form s pruned = record { start = s.start; items = kept_items form s; head = s.head; metadata = None; count = count_of pruned }

-- the same if there are no chunks
abbrev pub any_layout : Form → Shape → ℕ → Layout
any_layout form shape digest_size = layout_of form shape digest_size None

abbrev pub any_found : Form → Stored → Found
any_found form s = found_of form s None

-- why the commit that is selected is refused, if it is
abbrev pub selected_refusal : ℕ → Bool → Option Pruned → Option opening.Selected → Option Refused
selected_refusal start is_empty pruned None =
    if nat_lt 0 (bits_of pruned) then Some (HistoricalFloorPruned 0)
    else when (not is_empty) (DataCorrupted NoRetainedCommit)
selected_refusal start is_empty pruned (Some c) =
    if nat_lt c.size (bits_of pruned) then Some (HistoricalFloorPruned c.size)
    else (if nat_lt (c.size - 1) c.floor then Some (DataCorrupted FloorExceedsCommit)
    else (if nat_lt c.floor start then Some (HistoricalFloorPruned c.size)
    else (if nat_lt c.floor (bits_of pruned) then Some (HistoricalFloorPruned c.size)
    else (if is_below_threshold pruned c.size then Some (HistoricalFloorPruned c.size)
    else when (is_past_bits (chunks_of pruned) start (count_of pruned)) (DataCorrupted PrunedPastBits)))))

-- why what a store has beside that commit is refused, if it is: its head, its items from the floor on, their links
abbrev pub content_refusal : Layout → Found → Option opening.Selected → Option Refused
content_refusal layout f at =
    let items = items_between f (floor_of at) (size_of at) in
    first_refusal (
    when (not (length f.head == layout.digest_size * length (peaks layout.shape f.start))) (DataCorrupted HeadDoesNotMatch)
    ∷ when (list_any is_none items) (DataCorrupted ItemDoesNotDecode)
    ∷ when (layout.form.ordered && not (is_ring (filter_map (λ item. item) items))) (DataCorrupted LinksFormNoRing)
    ∷ [])

-- why a store of which these chunks are pruned is not opened up to a bound, if it is not
abbrev pub refusal_up_to : Form → Shape → ℕ → Option Pruned → Option ℕ → Stored → Option Refused
refusal_up_to form shape digest_size pruned bound s = opening_refusal (layout_of form shape digest_size pruned) (found_of form s pruned) bound

-- why it is not opened up to the commit that is selected, None in an empty store, if it is not
abbrev pub refusal_at : Form → Shape → ℕ → Option opening.Selected → Stored → Option Refused
refusal_at form shape digest_size at s = content_refusal (any_layout form shape digest_size) (any_found form s) at

-- the floor of the commit that a store's item at a location spells, if it spells one
abbrev pub floor_told : Form → Stored → ℕ → Option ℕ
floor_told form s at = option_and_then commit_floor (option_and_then (decoded form) (slice_get s.items (at - s.start)))
