-- Why there is no proof of what a database has.
use Rattle.std.specs.Prelude.{◌≡◌, ◌≢◌, ℕ, List, Option}
use Rattle.qm_model.specs.Causes.{Rose}
use Rattle.qm_model.specs.Operations.{Operation}
use Rattle.qm_model.specs.Refused as refusals
use Rattle.qm_model.specs.Refusals.{range_refusal}
use Rattle.qm_base.specs.declared.error.Error.{Error}
use Rattle.qm_base.specs.declared.error.Error.TheVariants as errors
use Rattle.qm_base.specs.declared.error.JournalError.TheVariants as journal
use Rattle.qm_graft.specs.Grafting.{grafting}
use Rattle.qm_store.specs.declared.Store as store
use Rattle.qm_any.specs.Databases as anys

-- an error is no stale batch, and no fault of the store
abbrev pub IsUnread : Error → Type 0
IsUnread e = (e ≢ errors.StaleBatch) × (e ≢ errors.Journal journal.Store)

module _ {C D : Type 0} (members : store.Ghosts C) where
  -- an error is no stale batch, and a fault of the store only if its count of faults rose
  pub record IsCaused (old new : anys.Database C D) (e : Error) : Type 0 where
    pub fresh : e ≢ errors.StaleBatch
    pub cause : e ≡ errors.Journal journal.Store → Rose (members.faults old.log.store) (members.faults new.log.store)

  -- why there is no proof of the operations of a database from a location on, over chunks of so many bytes
  abbrev pub from_refusal : ℕ → anys.Database C D → List Operation → ℕ → Option refusals.Refused
  from_refusal chunk db list start = range_refusal (grafting chunk) db.activity.pruned (members.start db.log.store) list start
