-- The nearest live update before a key: of those in a bucket, and of those that layers leave.
use Rattle.std.specs.Prelude.{ℕ, Bool, [], ◌&&◌, if◌then◌else◌, List, map, filter, flat_map, Option, Some, None, option_map, option_and_then, unwrap_or, is_some, is_none, bytes_eq}
use Rattle.std.specs.Borrow.{Bor}
use Rattle.std.specs.Option.{option_or}
use Rattle.std.specs.declared.ops.Bound.{Bound}
use Rattle.std.specs.declared.ops.Bound.TheVariants.{Included, Excluded, Unbounded}
use Rattle.qm_model.specs.Operations.{Bytes, Operation}
use Rattle.qm_model.specs.Live.{live_keys}
use Rattle.qm_model.specs.Keys.{key_lt, greatest, predecessor, between}
use Rattle.qm_model.specs.Ranges.{Limit, included, excluded, unlimited, is_before}
use Rattle.qm_operations.specs.Parts.{key_of}
use Rattle.qm_step.specs.Changes.{update_at, update_of}
use Rattle.qm_step.specs.Layers.{Layer, nearest_layer, update_by}
use Rattle.std.specs.Map.{keys_of}
use Rattle.qm_index.specs.Neighbours.{keys_at, prev_key}

-- where keys end
abbrev pub limit_view : Bound (Bor Bytes) → Limit
limit_view (Included k) = included k.now
limit_view (Excluded k) = excluded k.now
limit_view Unbounded = unlimited

-- the greatest of the keys before a limit
abbrev pub last_key : Limit → List Bytes → Option Bytes
last_key limit keys = greatest (filter (is_before limit) keys)

-- the greater of two keys, if there are two
abbrev pub later_key : Option Bytes → Option Bytes → Option Bytes
later_key None b = b
later_key (Some a) None = Some a
later_key (Some a) (Some b) = Some (if key_lt a b then b else a)

-- the keys to which layers do anything
abbrev pub changed_keys : List Layer → List Bytes
changed_keys layers = flat_map (λ l. map (λ c. c.0) l.changes) layers

-- the live update that layers leave a key
abbrev pub left_by : List Layer → Bytes → Option (ℕ × Operation)
left_by layers key = option_and_then (λ p. update_by p.0 p.1) (nearest_layer layers key)

-- whether they leave it one
abbrev pub is_left : List Layer → Bytes → Bool
is_left layers key = is_some (option_and_then (λ p. p.1.now) (nearest_layer layers key))

-- the keys to which they leave one
abbrev pub left_keys : List Layer → List Bytes
left_keys layers = filter (is_left layers) (changed_keys layers)

-- the key of an update
abbrev pub said_key : Operation → Bytes
said_key op = unwrap_or (key_of op) []

-- a key comes after one, if that is given, and before a limit
abbrev pub is_within : Option Bytes → Limit → Bytes → Bool
is_within None limit key = is_before limit key
is_within (Some above) limit key = key_lt above key && is_before limit key

-- the update, if its key does
abbrev pub only_within : Option Bytes → Limit → Option Operation → Option Operation
only_within above limit None = None
only_within above limit (Some op) = if is_within above limit (said_key op) then Some op else None

-- the update at a location, if its key comes after that of the last one and before a limit, or else the last one
abbrev pub later_at : Limit → List Operation → Option (ℕ × Operation) → ℕ → Option (ℕ × Operation)
later_at limit list last at = option_or (option_map (λ op. (at, op)) (only_within (option_map (λ p. said_key p.1) last) limit (update_at list at))) last

-- the live update with the greatest key before the limit in a key's own bucket, or else with the greatest key in the
-- bucket before it
abbrev pub lent_before : (Bytes → ℕ) → List (ℕ × List ℕ) → List Operation → Bytes → Limit → Option (ℕ × Operation)
lent_before index_key entries list key limit =
    let keys = live_keys list in
    option_and_then (update_of list)
    (option_or (last_key limit (keys_at index_key keys (index_key key))) (option_and_then (λ n. last_key unlimited (keys_at index_key keys n.0)) (prev_key (keys_of entries) (index_key key))))

-- layers do nothing to a key, and leave none live between it and the key after it
abbrev pub is_nearest : List Layer → Bytes → Option Bytes → Bytes → Bool
is_nearest layers key None own = is_none (nearest_layer layers own)
is_nearest layers key (Some left) own = is_none (nearest_layer layers own) && between left key own

-- of the lent list's live update before a key and the one that layers leave there the nearer one; layers win
abbrev pub nearer_of : List Layer → Bytes → Option (ℕ × Operation) → Option (ℕ × Operation)
nearer_of layers key None = option_and_then (left_by layers) (predecessor (left_keys layers) key)
nearer_of layers key (Some found) =
    let left = predecessor (left_keys layers) key in
    if is_nearest layers key left (said_key found.1) then Some found else option_and_then (left_by layers) left

-- the same, if the lent list's update may be the key's own
abbrev pub own_or_nearer : List Layer → Bytes → Option (ℕ × Operation) → Option (ℕ × Operation)
own_or_nearer layers key None = nearer_of layers key None
own_or_nearer layers key (Some found) = if bytes_eq (said_key found.1) key then Some found else nearer_of layers key (Some found)

-- the key, if it passes
abbrev pub kept : (Bytes → Bool) → Option Bytes → Option Bytes
kept test None = None
kept test (Some k) = if test k then Some k else None
