-- Ordered lists: neighbours around the ring, and what is known of the keys that writes change.
use Rattle.std.specs.Prelude.{ℕ, Bool, if◌then◌else◌, List, Option, Some, None, option_map, option_and_then, is_some, is_none}
use Rattle.qm_model.specs.Operations.{Bytes, Operation}
use Rattle.qm_model.specs.Live.{Live, live, live_of, live_keys}
use Rattle.qm_model.specs.Keys.{predecessor}
use Rattle.qm_model.specs.Ranges.{span_of}
use Rattle.qm_model.specs.Writes.{Write}
use Rattle.qm_operations.specs.Parts.{key_of}
use Rattle.qm_step.specs.Changes.{link_in, located, place_in, update_of}
use Rattle.qm_step.specs.Touches.{Touch}

-- the live update of the nearest key before this one, around the ring, with its location
abbrev pub previous_of : List Operation → Bytes → Option (ℕ × Operation)
previous_of list key = option_and_then (update_of list) (predecessor (live_keys list) key)

-- the live update whose span holds the key, with its location
abbrev pub holder_of : List Operation → Bytes → Option (ℕ × Operation)
holder_of list key = option_map located (span_of list key)

-- an operation of a step from this list, with where its key's live update stands there
abbrev pub touch_in : List Operation → Operation → Touch
touch_in base op = record { operation = op; before = option_and_then (place_in base) (key_of op) }

-- a write, with where its key's live update stands and the key that this names
abbrev pub linked_in : List Operation → Write → Write × Option (ℕ × Option Bytes)
linked_in base w = (w, link_in base w.key)

-- whether a write creates its key, or deletes it
abbrev pub is_changed : List Live → Write → Bool
is_changed entries w = if is_some w.value then is_none (live_of entries w.key) else is_some (live_of entries w.key)

-- a key that a write creates or deletes, and the live update before it
abbrev pub neighbour_in : List Operation → Write → Option (Bytes × Option (ℕ × Operation))
neighbour_in base w = if is_changed (live base) w then Some (w.key, previous_of base w.key) else None
