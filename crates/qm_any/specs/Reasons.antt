-- Why calls of a database refuse, whatever its store tells.
use Rattle.std.specs.Prelude.{◌≡◌, ◌≢◌, ◌⊎◌, ◌≤◌, ◌<◌, ◌^◌, ℕ, Bool, true, false, List, Option}
use Rattle.qm_model.specs.Causes.{Rose}
use Rattle.qm_model.specs.Refusals.{max_spelling}
use Rattle.qm_model.specs.Refused.{Refused}
use Rattle.qm_model.specs.Trees.{Shape, peak_positions}
use Rattle.qm_base.specs.declared.error.Error.{Error}
use Rattle.qm_base.specs.declared.error.Error.TheVariants as errors
use Rattle.qm_base.specs.declared.error.JournalError.TheVariants as journal
use Rattle.qm_base.specs.declared.error.TreeRefused.TheVariants as refused
use Rattle.qm_merkle.specs.Mems.{Kept, node_at}
use Rattle.qm_store.specs.declared.Store as store
use Rattle.qm_store.specs.Log.{Log, IsLacked}
use Rattle.qm_store.specs.Reads.{IsReadError}
use Rattle.qm_store.specs.Refusals.{IsAmong}

-- a spelling is too long, or a list is: what is told is past its bound
abbrev pub IsSizeError : Error → Type 0
IsSizeError e =
    ((n : ℕ) × (max_spelling < n) × (e ≡ errors.Journal (journal.ItemTooLarge n)))
    ⊎ ((n : ℕ) × (2 ^ 62 < n) × (e ≡ errors.Merkle (refused.LocationOverflow n)))

-- why a list was not made: a read failed, or it is too large
abbrev pub IsMakingError : {C D : Type 0} → store.Ghosts C → Log C D → Log C D → Error → Type 0
IsMakingError members old new e = IsReadError members old new e ⊎ IsSizeError e

-- why there is no proof of operations: memory was short, or the store failed, by which its count rose, or it is one of these reasons
pub record IsProofError {C D : Type 0} (members : store.Ghosts C) (reasons : List Refused) (old new : Log C D) (e : Error) : Type 0 where
  pub causes : IsAmong e reasons
  pub fresh : e ≢ errors.StaleBatch
  pub cause : e ≡ errors.Journal journal.Store → Rose (members.faults old.store) (members.faults new.store)

-- why there are no pins at a location of a list of this size, whose store has the operations from its start on: within the list it is
-- the first peak that the tree lacks, or want of memory, and from the start on want of memory alone
pub record IsPinsError {D : Type 0} (shape : Shape) (tree : Kept D) (start size at : ℕ) (e : Error) : Type 0 where
  pub lacked : at ≤ size → IsLacked (node_at shape tree) (peak_positions shape at) e
  pub whole : start ≤ at → at ≤ size → e ≡ errors.Memory
  pub never : (e ≢ errors.StaleBatch) × (e ≢ errors.Journal journal.Store)

-- why there are not all of these nodes of a batch's list, whose database is at a state that it knows or not: it is stale only if it is
-- not; else, if memory was not short, it is, and the error is the first node that is lacked
pub record IsNodeError {D : Type 0} (known : Bool) (at : ℕ → Option D) (positions : List ℕ) (e : Error) : Type 0 where
  pub stale : e ≡ errors.StaleRead → known ≡ false
  pub never : (e ≡ errors.Memory) ⊎ ((e ≡ errors.StaleRead) ⊎ ((p : ℕ) × (e ≡ errors.Merkle (refused.ElementPruned p))))
  pub order : e ≢ errors.Memory → e ≢ errors.StaleRead → known ≡ true
  pub lacked : e ≢ errors.StaleRead → IsLacked at positions e
