-- Why a database refuses, by its operation list alone.
use Rattle.std.specs.Prelude.{ℕ, zero, suc, ◌-◌, ◌/◌, ◌^◌, min, nat_lt, if◌then◌else◌, List, [], ◌∷◌, length, map, slice_get, Option, Some, None, option_map, option_and_then}
use Rattle.std.specs.Option.{option_or}
use Rattle.qm_model.specs.Operations.{Bytes, Operation, update, delete, commit}
use Rattle.qm_model.specs.Forms.{Form, spelling}
use Rattle.qm_model.specs.Batches.{Chain, own_operations}
use Rattle.qm_model.specs.Live.{Live}
use Rattle.qm_model.specs.Refused.{Refused, KeyNotFound, KeyExists, HistoricalFloorPruned, DataCorrupted, Merkle, Journal, OperationPruned, FloorExceedsCommit, RangeOutOfBounds, LocationOverflow, ItemPruned, ItemTooLarge}

-- the most bytes of a spelling
abbrev pub max_spelling : ℕ
max_spelling = 65536

-- how many bytes the first spelling has that is too long
abbrev pub too_long : List Bytes → Option ℕ
too_long [] = None
too_long (spelt ∷ rest) = if nat_lt max_spelling (length spelt) then Some (length spelt) else too_long rest

-- a list of too many operations
abbrev pub too_many : ℕ → Option Refused
too_many size = if nat_lt (2 ^ 62) size then Some (Merkle (LocationOverflow size)) else None

-- why a batch with this tip list is not merkleized: an own operation is too long, or the list is
abbrev pub tip_refusal : Form → Chain → List Operation → Option Refused
tip_refusal form chain tip = option_or (option_map (λ n. Journal (ItemTooLarge n)) (too_long (map (spelling form) (own_operations chain tip)))) (too_many (length tip))

-- the floor of a commit
abbrev pub commit_floor : Operation → Option ℕ
commit_floor (update k v n) = None
commit_floor (delete k) = None
commit_floor (commit m f) = Some f

-- the floor of the commit at the end of the first n operations, if a commit stands there
abbrev pub floor_before : List Operation → ℕ → Option ℕ
floor_before list zero = None
floor_before list (suc i) = option_and_then commit_floor (slice_get list i)

-- an item below the start of a log, which has those from there on
abbrev pub item_refusal : ℕ → ℕ → Option Refused
item_refusal kept i = if nat_lt i kept then Some (Journal (ItemPruned i)) else None

-- the last of the first n items
abbrev pub last_refusal : ℕ → ℕ → Option Refused
last_refusal kept zero = None
last_refusal kept (suc i) = item_refusal kept i

-- why there is no proof from `start` on of the first `size` operations, at whose end stands a commit of this floor
abbrev pub end_refusal : ℕ → ℕ → ℕ → Option ℕ → Option Refused
end_refusal kept size start None = Some (HistoricalFloorPruned size)
end_refusal kept size start (Some f) =
    if nat_lt (size - 1) f then Some (DataCorrupted FloorExceedsCommit)
    else (if nat_lt start size then item_refusal kept start else Some (Merkle (RangeOutOfBounds start)))

-- why there is no proof of operations from `start` on in the list's first `size` operations, over a log that has the items
-- from `kept` on
abbrev pub proof_refusal : ℕ → List Operation → ℕ → ℕ → Option Refused
proof_refusal kept list size start =
    if nat_lt (length list) size then Some (Merkle (RangeOutOfBounds size))
    else option_or (last_refusal kept size) (end_refusal kept size start (floor_before list size))

-- how many operations a proof has from `start` on, of `max` at most
abbrev pub proof_count : ℕ → ℕ → ℕ → ℕ
proof_count size start max = min max (size - start)

-- why there are no pins at n
abbrev pub pins_refusal : List Operation → ℕ → Option Refused
pins_refusal list n = if nat_lt (length list) n then Some (Merkle (RangeOutOfBounds n)) else None

-- why there is no range proof from `start` on, over bits of which so many chunks are pruned, and a log that has the items from
-- `kept` on; a chunk has 2 ^ g locations
abbrev pub range_refusal : ℕ → ℕ → ℕ → List Operation → ℕ → Option Refused
range_refusal g chunks kept list start =
    if nat_lt start (length list)
    then (if nat_lt (start / 2 ^ g) chunks then Some (OperationPruned start) else item_refusal kept start)
    else Some (Merkle (RangeOutOfBounds start))

-- why there is no proof of a key's value: it has no live update
abbrev pub lacking_refusal : Option Live → Option Refused
lacking_refusal None = Some KeyNotFound
lacking_refusal (Some e) = None

-- why there is none that a key has no value: it has a live update
abbrev pub existing_refusal : Option Live → Option Refused
existing_refusal None = None
existing_refusal (Some e) = Some KeyExists
