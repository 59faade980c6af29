-- What a batch number names.
use Rattle.std.specs.Prelude.{Option, Some, None}
use Rattle.qm_engine.specs.declared.table.Slot.{Slot}
use Rattle.qm_engine.specs.declared.table.Slot.TheVariants.{Writing, Staged, Merkleized}

abbrev pub writing_of : {B S M : Type 0} → Slot B S M → Option B
writing_of (Writing b) = Some b
writing_of slot = None

abbrev pub staged_of : {B S M : Type 0} → Slot B S M → Option S
staged_of (Staged b) = Some b
staged_of slot = None

abbrev pub merkleized_of : {B S M : Type 0} → Slot B S M → Option M
merkleized_of (Merkleized b) = Some b
merkleized_of slot = None
