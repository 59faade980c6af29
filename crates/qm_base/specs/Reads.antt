-- What is told of a log of items, and what a call says that reads some.
use Rattle.std.specs.Prelude.{◌≡◌, ◌≢◌, ◌⊎◌, ◌<◌, ℕ, List, Option, Result, IfErr}
use Rattle.qm_model.specs.Operations.{Bytes}
use Rattle.qm_model.specs.StoreModel.{Stored}
use Rattle.qm_base.specs.declared.error.Error.{Error}
use Rattle.qm_base.specs.declared.error.Error.TheVariants as errors
use Rattle.qm_base.specs.declared.error.JournalError.TheVariants as journal

-- what is told of a log: that it stands for items, from which location on it has them, what its store tells, what it keeps whatever is
-- read, and that a read of its store failed
pub record ItemsTold (L : Type 0) : Type 1 where
  pub logged : L → List Bytes → Type 0
  pub start : L → ℕ
  pub told : L → Option Stored
  pub keeps : L → L → Type 0
  pub failed : L → L → Type 0

-- reads left the log as it was: it stands for what it stood for
pub record KeepsItems {L : Type 0} (reads : ItemsTold L) (old new : L) : Type 0 where
  pub stands : (list : List Bytes) → reads.logged old list → reads.logged new list
  pub start : reads.start new ≡ reads.start old
  pub told : reads.told new ≡ reads.told old
  pub keeps : reads.keeps old new

-- why an item could not be read: memory, the store, or it is below the log's start
abbrev pub IsItemError : {L : Type 0} → ItemsTold L → L → L → Error → Type 0
IsItemError reads old new e =
    (e ≡ errors.Memory)
    ⊎ (((e ≡ errors.Journal journal.Store) × reads.failed old new)
    ⊎ ((n : ℕ) × (n < reads.start old) × (e ≡ errors.Journal (journal.ItemPruned n))))

-- the error is that of no item that is gone
abbrev pub IsOfKeptItem : Error → Type 0
IsOfKeptItem e = (n : ℕ) → e ≢ errors.Journal (journal.ItemPruned n)

-- A call read items of a log: it left the log as it was. It failed for memory, for a read of its store, or at an item below the
-- start, and not so if all that it reads is there.
pub record ReadsItems {L A : Type 0} (reads : ItemsTold L) (old new : L) (result : Result A Error) (there : Type 0) : Type 0 where
  pub left : KeepsItems reads old new
  pub error : IfErr result (IsItemError reads old new)
  pub whole : there → IfErr result IsOfKeptItem
