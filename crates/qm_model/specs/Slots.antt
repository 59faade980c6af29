-- Slots: what is to become of keys that were read.
use Rattle.std.specs.Prelude.{◌≡◌, refl, List, [], ◌∷◌, ◌++◌, zip, filter_map, Option, Some, None}
use Rattle.qm_model.specs.Operations.{Bytes}
use Rattle.qm_model.specs.Writes.{Write, last_writes}

-- the key stays as it is, gets a value, or goes
pub data Slot : Type 0 where
  keep : Slot
  put : Bytes → Slot
  away : Slot

-- the write that a key's slot is, if it is one
abbrev pub write_in : Bytes × Slot → Option Write
write_in (key, keep) = None
write_in (key, put value) = Some (record { key = key; value = Some value })
write_in (key, away) = Some (record { key = key; value = None })

-- the recorded writes, then those of the slots of the keys that were read, then the others
abbrev pub slotted : List Write → List Bytes → List Slot → List Write → List Write
slotted recorded keys slots others = recorded ++ filter_map write_in (zip keys slots) ++ others

-- of a key that stands three times the last slot counts that does not keep it; a write after the slots counts before that
last_slot_counts : last_writes (slotted [] ((97 ∷ []) ∷ (97 ∷ []) ∷ (97 ∷ []) ∷ []) (put (5 ∷ []) ∷ away ∷ keep ∷ []) []) ≡ record { key = 97 ∷ []; value = None } ∷ []
last_slot_counts = refl

others_win : last_writes (slotted [] ((97 ∷ []) ∷ []) (away ∷ []) (record { key = 97 ∷ []; value = Some (9 ∷ []) } ∷ [])) ≡ record { key = 97 ∷ []; value = Some (9 ∷ []) } ∷ []
others_win = refl

slots_win : last_writes (slotted (record { key = 97 ∷ []; value = Some (9 ∷ []) } ∷ []) ((97 ∷ []) ∷ []) (away ∷ []) []) ≡ record { key = 97 ∷ []; value = None } ∷ []
slots_win = refl
