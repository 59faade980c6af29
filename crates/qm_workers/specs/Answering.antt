-- What a coordinator's answers make of the workers of a crew.
use Rattle.std.specs.Prelude.{◌≡◌, ◌<◌, ◌^◌, ℕ, false, List, [], length, IfSome}
use Rattle.qm_model.specs.Operations.{Bytes, Operation}
use Rattle.qm_model.specs.Forms.{Form}
use Rattle.qm_index.specs.Places.{Places}
use Rattle.qm_store.specs.declared.Store as store
use Rattle.qm_store.specs.Log.{Log}
use Rattle.qm_build.specs.Reads.{Spells}
use Rattle.qm_workers.specs.Working.{Work, DoneStays, HasDone, IsWithin}

-- A worker was told what is true, if it was told anything: if a log's store tells its items and these spell a list from a location on, what it has done of the list stays done.
pub record IsAnswered {C D : Type 0} (members : store.Ghosts C) (form : Form) (index_key : Bytes → ℕ) (log : Log C D) (old new : Work) : Type 0 where
  pub done : (ops : List Operation) (from : ℕ) → log.tree.leaves ≡ length ops → IsWithin from log.tree.leaves old → IfSome (members.told log.store) (λ s. Spells form s from ops → DoneStays index_key ops old new)
  pub within : (from to : ℕ) → IsWithin from to old → IsWithin from to new
  pub failed : new.failed ≡ old.failed
  pub coming : new.coming ≡ old.coming

-- A worker has worked, and was told what is true: unless it lacked memory, what was so before is so after.
pub record HasWorked {C D : Type 0} (members : store.Ghosts C) (form : Form) (index_key : Bytes → ℕ) (log : Log C D) (old new : Work) : Type 0 where
  pub failed : new.failed ≡ false → old.failed ≡ false
  pub within : new.failed ≡ false → (from to : ℕ) → IsWithin from to old → IsWithin from to new
  pub done : new.failed ≡ false → (ops : List Operation) (from : ℕ) → log.tree.leaves ≡ length ops → IsWithin from log.tree.leaves old
      → IfSome (members.told log.store) (λ s. Spells form s from ops → (final : Places) (most : ℕ) → most < 2 ^ 64 → HasDone index_key ops final most old → HasDone index_key ops final most new)

-- it has nothing left to do, and did not lack memory
pub record IsThrough (w : Work) : Type 0 where
  pub failed : w.failed ≡ false
  pub coming : w.coming ≡ []
