-- Logs that are read.
use Rattle.std.specs.Prelude.{◌≡◌, ◌⊎◌, ◌≤◌, ◌-◌, ℕ, List, map, take, drop, All, Option, Some, None, slice_get, option_and_then, filter_map}
use Rattle.qm_model.specs.Causes.{Rose}
use Rattle.qm_model.specs.Operations.{Bytes, Operation}
use Rattle.qm_model.specs.Trees.{Shape}
use Rattle.qm_model.specs.Forms.{Form, IsOf, IsSpelling, decoded, spelling}
use Rattle.qm_model.specs.StoreModel.{Stored}
use Rattle.qm_base.specs.declared.error.Corrupt.TheVariants.{ItemDoesNotDecode}
use Rattle.qm_base.specs.declared.error.Error.{Error}
use Rattle.qm_base.specs.declared.error.Error.TheVariants as errors
use Rattle.qm_base.specs.declared.error.JournalError.TheVariants as journal
use Rattle.qm_store.specs.declared.Store as store
use Rattle.qm_store.specs.Log.{Log, IsLog, IsKept}

-- the operation that a store has at a location, none if it has no item there or one that spells none
abbrev pub operation_at : Form → Stored → ℕ → Option Operation
operation_at form s at = option_and_then (decoded form) (slice_get s.items (at - s.start))

-- a store's item at a location spells no operation
pub record IsUndecoded (form : Form) (s : Stored) (at : ℕ) : Type 0 where
  pub item : Bytes
  pub here : slice_get s.items (at - s.start) ≡ Some item
  pub none : decoded form item ≡ None

-- a store's item at a location spells this operation
pub record SpellsAt (form : Form) (s : Stored) (at : ℕ) (op : Operation) : Type 0 where
  pub item : Bytes
  pub here : slice_get s.items (at - s.start) ≡ Some item
  pub spells : IsSpelling form item op

-- from a location on the items of a store spell those of these operations that stand there
abbrev pub Spells : Form → Stored → ℕ → List Operation → Type 0
Spells form s from ops = (at : ℕ) (op : Operation) → from ≤ at → slice_get ops at ≡ Some op → SpellsAt form s at op

-- the items of a store from one location up to, and without, another, each as an operation, none if it spells none
abbrev pub items_within : Form → Stored → ℕ → ℕ → List (Option Operation)
items_within form s from to = drop (from - s.start) (take (to - s.start) (map (decoded form) s.items))

-- the operations that these items spell
abbrev pub operations_within : Form → Stored → ℕ → ℕ → List Operation
operations_within form s from to = filter_map (λ item. item) (items_within form s from to)

-- a log has the spellings of operations of this form
pub record HasOperations {C D : Type 0} (members : store.Ghosts C) (shape : Shape) (bytes : D → Bytes) (hash : Bytes → Bytes) (form : Form) (log : Log C D) (ops : List Operation) : Type 0 where
  pub logged : IsLog members shape bytes hash log (map (spelling form) ops)
  pub of : All (IsOf form) ops

-- reads left the log as it was: it stands for what it stood for, and its count of faults did not fall
pub record KeepsLog {C D : Type 0} (members : store.Ghosts C) (shape : Shape) (bytes : D → Bytes) (hash : Bytes → Bytes) (old new : Log C D) : Type 0 where
  pub stands : (list : List Bytes) → IsLog members shape bytes hash old list → IsLog members shape bytes hash new list
  pub tree : new.tree ≡ old.tree
  pub kept : IsKept members old.store new.store
  pub later : members.faults old.store ≤ members.faults new.store

-- why a read failed: memory, or a fault by which the store's count rose
abbrev pub IsReadFault : {C D : Type 0} → store.Ghosts C → Log C D → Log C D → Error → Type 0
IsReadFault members old new e = (e ≡ errors.Memory) ⊎ ((e ≡ errors.Journal journal.Store) × Rose (members.faults old.store) (members.faults new.store))

-- why the rebuild of an index failed: a read, or an item that spells no operation
abbrev pub IsRebuildError : {C D : Type 0} → store.Ghosts C → Log C D → Log C D → Error → Type 0
IsRebuildError members old new e = IsReadFault members old new e ⊎ (e ≡ errors.DataCorrupted ItemDoesNotDecode)
