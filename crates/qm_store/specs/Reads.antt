-- What is told of a log, and what reads leave of it.
use Rattle.std.specs.Prelude.{◌≡◌, ◌≤◌, ◌<◌, ◌⊎◌, ℕ}
use Rattle.qm_model.specs.Causes.{Rose}
use Rattle.qm_model.specs.Operations.{Bytes}
use Rattle.qm_model.specs.Trees.{Shape}
use Rattle.qm_base.specs.Reads as base
use Rattle.qm_base.specs.declared.error.Error.{Error}
use Rattle.qm_base.specs.declared.error.Error.TheVariants as errors
use Rattle.qm_base.specs.declared.error.JournalError.TheVariants as journal
use Rattle.qm_store.specs.declared.Store as store
use Rattle.qm_store.specs.Log.{Log, IsLog, IsKept}

-- what reads keep of it: its tree, what its store has, and a count of faults that does not fall
pub record IsKeptLog {C D : Type 0} (members : store.Ghosts C) (old new : Log C D) : Type 0 where
  pub tree : new.tree ≡ old.tree
  pub kept : IsKept members old.store new.store
  pub later : members.faults old.store ≤ members.faults new.store

-- what is told of it
abbrev pub log_reads : {C D : Type 0} → store.Ghosts C → Shape → (D → Bytes) → (Bytes → Bytes) → base.ItemsTold (Log C D)
log_reads members shape bytes hash = record {
  logged = IsLog members shape bytes hash;
  start = λ log. (log.tree).start;
  told = λ log. members.told log.store;
  keeps = IsKeptLog members;
  failed = λ old new. Rose (members.faults old.store) (members.faults new.store);
}

-- reads left it as it was
abbrev pub IsRead : {C D : Type 0} → store.Ghosts C → Shape → (D → Bytes) → (Bytes → Bytes) → Log C D → Log C D → Type 0
IsRead members shape bytes hash = base.KeepsItems (log_reads members shape bytes hash)

-- why a read failed: memory, a fault by which the store's count rose, or an item below the log's start
abbrev pub IsReadError : {C D : Type 0} → store.Ghosts C → Log C D → Log C D → Error → Type 0
IsReadError members old new e =
    (e ≡ errors.Memory)
    ⊎ (((e ≡ errors.Journal journal.Store) × Rose (members.faults old.store) (members.faults new.store))
    ⊎ ((n : ℕ) × (n < old.tree.start) × (e ≡ errors.Journal (journal.ItemPruned n))))
