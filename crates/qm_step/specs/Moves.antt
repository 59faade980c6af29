-- What a walk decides of an ordered list: the live updates before evicted keys, and the operations of the decisions.
use Rattle.std.specs.Prelude.{ℕ, ◌-◌, nat_lt, Bool, if◌then◌else◌, List, slice_get, Option, Some, None, option_map, option_and_then, is_some, is_none}
use Rattle.std.specs.BTreeMap.{BTreeMap, get_by}
use Rattle.std.specs.Cmp.Lexicographic.{slice_cmp}
use Rattle.std.specs.Ordering.{nat_cmp}
use denote.Ref.{Bor}
use Rattle.qm_model.specs.Operations.{Bytes, Operation, update, delete}
use Rattle.qm_step.specs.Going.{Decided}
use Rattle.qm_step.specs.Rings.{previous_of}
use Rattle.qm_step.specs.Touches.{Touch}

-- the live update before a key that goes
abbrev pub before_evicted : List Operation → Decided → Option (ℕ × Operation)
before_evicted list d = if is_none d.value then previous_of list d.key else None

-- the update of a key that has a value, which names this key
abbrev pub update_naming : Option Bytes → Bytes → Option Bytes → Option Operation
update_naming next key value = option_and_then (λ v. option_map (λ n. update key v (Some n)) next) value

-- that of a decision, or the delete of its key if there is none
abbrev pub touch_naming : Option Bytes → Decided → Touch
touch_naming next d = record { operation = elim (update_naming next d.key d.value) [ Some op ↦ op | None ↦ delete d.key ]; before = d.before }

-- a live update written again, which names this key
abbrev pub rewritten_naming : Option Bytes → Option ℕ → Bytes → Bytes → Option Touch
rewritten_naming next before key value = option_map (λ n. record { operation = update key value (Some n); before = before }) next

-- where the key of an update at a location stood in the base list of this size, which these operations follow
abbrev pub place_before : ℕ → List Touch → ℕ → Option ℕ
place_before size made at = if nat_lt at size then Some at else option_and_then (λ t. t.before) (slice_get made (at - size))

-- whether a map by key has a key
abbrev pub has_key : {X : Type 0} → BTreeMap (Bor Bytes) X → Bytes → Bool
has_key m key = is_some (get_by (λ k. slice_cmp nat_cmp key k.now) m)
