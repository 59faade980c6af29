-- What a call says that reads a database, alone or through a batch.
use Rattle.std.specs.Prelude.{◌≡◌, ◌⊎◌, Bool, true, false, List, Result, IfErr, OnOk}
use Rattle.qm_model.specs.Batches.{Chain, IsKnown, IsOnChain}
use Rattle.qm_model.specs.Causes.{Rose}
use Rattle.qm_model.specs.Operations.{Operation}
use Rattle.qm_base.specs.declared.error.Error.{Error}
use Rattle.qm_base.specs.declared.error.Error.TheVariants as errors
use Rattle.qm_base.specs.declared.error.JournalError.TheVariants as journal
pub use Rattle.qm_base.specs.Reads.{IsOfKeptItem}
use Rattle.qm_chain.specs.Bounds.{Bounds, knows}
use Rattle.qm_store.specs.declared.Store as store
use Rattle.qm_store.specs.Log.{Log}
use Rattle.qm_store.specs.Reads.{IsReadError}
use Rattle.qm_any.specs.Layouts.{Layout}
use Rattle.qm_any.specs.Databases.{Database, Begun, Made, Staged, IsBegun, IsDatabase, IsLeft, IsMade, IsStaged}

-- why a read through a batch failed, which is known or not: it is stale, or memory was short, or the log's read failed
abbrev pub IsThroughError : {C D : Type 0} → store.Ghosts C → Bool → Log C D → Log C D → Error → Type 0
IsThroughError members known old new e = ((e ≡ errors.StaleRead) × (known ≡ false)) ⊎ ((e ≡ errors.Memory) ⊎ ((known ≡ true) × IsReadError members old new e))

-- why a read of a database that stands for a list failed: memory was short, or the store failed, by which its count of faults rose
abbrev pub IsFault : {C D : Type 0} → store.Ghosts C → Log C D → Log C D → Error → Type 0
IsFault members old new e = (e ≡ errors.Memory) ⊎ ((e ≡ errors.Journal journal.Store) × Rose (members.faults old.store) (members.faults new.store))

-- the same of a read through a batch, which is known or not: it may be stale too
abbrev pub IsFaultThrough : {C D : Type 0} → store.Ghosts C → Bool → Log C D → Log C D → Error → Type 0
IsFaultThrough members known old new e = ((e ≡ errors.StaleRead) × (known ≡ false)) ⊎ ((e ≡ errors.Memory) ⊎ ((known ≡ true) × IsFault members old new e))

module _ {C D : Type 0} (members : store.Ghosts C) (layout : Layout D) where
  -- of each list that the database stands for
  abbrev pub AtList : Database C D → (List Operation → Type 0) → Type 0
  AtList db P = (list : List Operation) → IsDatabase members layout db list → P list

  -- of each chain and tip of a merkleized batch that can be read over the database
  abbrev pub AtMade : Database C D → Made D → (Chain → List Operation → Type 0) → Type 0
  AtMade db batch P = (list : List Operation) (chain : Chain) (tip : List Operation) → IsDatabase members layout db list → IsMade layout.hashing batch chain tip → IsKnown list chain tip → P chain tip

  -- of each chain of a batch, and that of its parent, whose base can be read over the database
  abbrev pub AtBegun : Database C D → Begun D → (Chain → Chain → Type 0) → Type 0
  AtBegun db batch P = (list : List Operation) (chain above : Chain) → IsDatabase members layout db list → IsBegun layout.hashing batch chain above → IsKnown list above chain.base → P chain above

  -- the same of a staged batch
  abbrev pub AtStaged : Database C D → Staged D → (Chain → Chain → Type 0) → Type 0
  AtStaged db batch P = (list : List Operation) (chain above : Chain) → IsDatabase members layout db list → IsStaged layout.hashing batch chain above → IsKnown list above chain.base → P chain above

  -- of each chain of a batch that has the list for which the database stands
  abbrev pub OnBegun : Database C D → Begun D → (Chain → Type 0) → Type 0
  OnBegun db batch P = (list : List Operation) (chain above : Chain) → IsDatabase members layout db list → IsBegun layout.hashing batch chain above → IsOnChain list chain → P chain

  -- the same of a staged batch
  abbrev pub OnStaged : Database C D → Staged D → (Chain → Type 0) → Type 0
  OnStaged db batch P = (list : List Operation) (chain above : Chain) → IsDatabase members layout db list → IsStaged layout.hashing batch chain above → IsOnChain list chain → P chain

  module _ {A : Type 0} (old new : Database C D) (result : Result A Error) where
    -- A call read the database: it left it as it was but for its store's count of faults. It failed for memory, for a fault by
    -- which that count rose, or at an item that the store no longer has, and not so if the database stands for a list.
    pub record Reads : Type 0 where
      pub error : IfErr result (IsReadError members old.log new.log)
      pub whole : AtList old (λ list. IfErr result IsOfKeptItem)
      pub left : IsLeft members layout.hashing old new

    -- The same through a batch of these bounds: it answers only if they know the database's state, and is stale only if not.
    pub record ReadsThrough (bounds : Bounds) : Type 0 where
      pub readable : OnOk result (knows bounds old.commitment ≡ true)
      pub error : IfErr result (IsThroughError members (knows bounds old.commitment) old.log new.log)
      pub whole : AtList old (λ list. IfErr result IsOfKeptItem)
      pub left : IsLeft members layout.hashing old new
