-- The program's writes and slots over byte strings.
use Rattle.std.specs.Prelude.{List, map, option_map}
use Rattle.qm_model.specs.Operations.{Bytes}
use Rattle.qm_model.specs.Slots as model
use Rattle.qm_model.specs.Writes as writes
use Rattle.qm_base.specs.declared.slot.Slot.{Slot}
use Rattle.qm_base.specs.declared.slot.Slot.TheVariants.{Keep, Put, Delete}
use Rattle.qm_base.specs.declared.write.Write.{Write}

-- a write
abbrev pub write_view : {K V : Type 0} → (K → Bytes) → (V → Bytes) → Write K V → writes.Write
write_view key value w = record { key = key w.key; value = option_map value w.value }

abbrev pub write_views : {K V : Type 0} → (K → Bytes) → (V → Bytes) → List (Write K V) → List writes.Write
write_views key value ws = map (write_view key value) ws

-- what is to become of a key
abbrev pub slot_view : {V : Type 0} → (V → Bytes) → Slot V → model.Slot
slot_view value Keep = model.keep
slot_view value (Put v) = model.put (value v)
slot_view value Delete = model.away

abbrev pub slot_views : {V : Type 0} → (V → Bytes) → List (Slot V) → List model.Slot
slot_views value slots = map (slot_view value) slots
