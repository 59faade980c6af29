-- Logs: the leaves of items, the head of a store, and what a log stands for.
use Rattle.std.specs.Prelude.{◌≡◌, ◌⊎◌, ◌≤◌, ℕ, suc, ◌+◌, ◌-◌, List, [], ◌∷◌, length, take, drop, map, Option, Some, IfSome}
use Rattle.std.specs.List.{concat}
use Rattle.qm_model.specs.Causes.{IsCause, Rose}
use Rattle.qm_model.specs.StoreModel.{Stored, appended, pruned, IsOldOrNew, ReadsAs, Turns, Becomes, Leaves, Grows}
use Rattle.qm_model.specs.Operations.{Bytes}
use Rattle.qm_model.specs.Trees.{Shape, leaf, peaks, leaf_digest, digest_of}
use Rattle.qm_base.specs.declared.error.Error.{Error}
use Rattle.qm_base.specs.declared.error.Error.TheVariants as errors
use Rattle.qm_base.specs.declared.error.JournalError.TheVariants as journal
use Rattle.qm_base.specs.declared.error.TreeRefused.TheVariants as refused
use Rattle.qm_merkle.specs.Mems.{Kept, Stands}
use Rattle.qm_proofs.specs.Proofs.{first_lacked}
use Rattle.qm_store.specs.declared.Store as store
use Rattle.qm_store.specs.declared.StoreError.{StoreError}
use Rattle.qm_store.specs.declared.StoreError.TheVariants as stores
use Rattle.qm_store.specs.declared.log.LogGiven.{LogGiven}
use Rattle.qm_store.specs.declared.log.LogGiven.TheVariants as variants

-- a log: its store, and the tree over its items' leaves
pub record Log (C D : Type 0) : Type 0 where
  pub store : C
  pub tree : Kept D

-- the leaves' digests of items from location i on
abbrev pub digests_from : (Bytes → Bytes) → Shape → ℕ → List Bytes → List Bytes
digests_from hash shape i [] = []
digests_from hash shape i (item ∷ rest) = leaf_digest hash (shape.position (leaf i)) item ∷ digests_from hash shape (suc i) rest

-- the digests of the peaks over n leaves, one after another
abbrev pub head_over : Shape → (Bytes → Bytes) → ℕ → List Bytes → Bytes
head_over shape hash n leaves = concat (map (digest_of hash shape leaves) (peaks shape n))

-- the bytes are the digests of the peaks over n leaves, one after another
pub record IsHead {D : Type 0} (shape : Shape) (bytes : D → Bytes) (hash : Bytes → Bytes) (n : ℕ) (leaves : List Bytes) (head : Bytes) : Type 0 where
  pub pins : List D
  pub spelled : concat (map bytes pins) ≡ head
  pub digests : map bytes pins ≡ map (digest_of hash shape leaves) (peaks shape n)

-- a log stands for a list of items: its tree for their leaves, and its store, if it tells its items, has those from the start on
pub record IsLog {C D : Type 0} (members : store.Ghosts C) (shape : Shape) (bytes : D → Bytes) (hash : Bytes → Bytes) (log : Log C D) (list : List Bytes) : Type 0 where
  pub tree : Stands shape bytes hash log.tree (digests_from hash shape 0 list)
  pub start : log.tree.start ≡ members.start log.store
  pub size : log.tree.leaves ≡ length list
  pub items : IfSome (members.told log.store) (λ held. take (length list - log.tree.start) held.items ≡ drop log.tree.start list)

-- a store has what it had
pub record IsKept {C : Type 0} (members : store.Ghosts C) (old new : C) : Type 0 where
  pub start : members.start new ≡ members.start old
  pub end : members.«end» new ≡ members.«end» old
  pub told : members.told new ≡ members.told old

-- a store was called, and its items grew by these, and else it has what it had
pub record HasGrown {C : Type 0} (members : store.Ghosts C) (old new : C) (more : List Bytes) : Type 0 where
  pub start : members.start new ≡ members.start old
  pub end : members.«end» new ≡ members.«end» old + length more
  pub told : Becomes (members.told old) (members.told new) (appended more)
  pub called : Rose (members.calls old) (members.calls new)

-- they grew by a first part of these, and no more is stable if there are none
pub record HasGrownPart {C : Type 0} (members : store.Ghosts C) (old new : C) (more : List Bytes) : Type 0 where
  pub start : members.start new ≡ members.start old
  pub from : members.«end» old ≤ members.«end» new
  pub within : members.«end» new ≤ members.«end» old + length more
  pub told : Grows (members.told old) (members.told new) more
  pub still : more ≡ [] → Turns (members.told old) (members.told new) (λ s t. t.stable ≡ s.stable)

-- a store was made this, and starts and ends where it did
pub record HasBecome {C : Type 0} (members : store.Ghosts C) (old new : C) (f : Stored → Stored) : Type 0 where
  pub start : members.start new ≡ members.start old
  pub end : members.«end» new ≡ members.«end» old
  pub told : Becomes (members.told old) (members.told new) f

-- a call that failed left one of these, which starts where it did and ends there or before
pub record HasLeft {C : Type 0} (members : store.Ghosts C) (R : Stored → Stored → Type 0) (old new : C) : Type 0 where
  pub start : members.start new ≡ members.start old
  pub within : members.«end» new ≤ members.«end» old
  pub told : Leaves (members.told old) (members.told new) R

-- a prune to a location with this head failed
pub record HasLeftPruned {C : Type 0} (members : store.Ghosts C) (to : ℕ) (head : Bytes) (old new : C) : Type 0 where
  pub within : members.«end» new ≤ members.«end» old
  pub told : Leaves (members.told old) (members.told new) (λ s. ReadsAs s.stable (IsOldOrNew (pruned to head) s))

-- why a log's call failed, if its store's did
abbrev pub log_error : StoreError → Error
log_error stores.Memory = errors.Memory
log_error stores.Failed = errors.Journal journal.Store

-- the store that is given back, by itself or inside the log
abbrev pub store_given : {C D : Type 0} → LogGiven (Log C D) C → C
store_given (variants.Log log) = log.store
store_given (variants.Store store) = store

-- what a call that takes a log by value leaves if it is refused: the log as it was, if memory lacked before its store was called, and
-- else its store, which was called, as such a call leaves it
pub record IsRefused {C D : Type 0} (members : store.Ghosts C) (Left : C → C → Type 0) (old : Log C D) (given : LogGiven (Log C D) C) (error : Error) : Type 0 where
  pub back : (log : Log C D) → given ≡ variants.Log log → (log ≡ old) × (error ≡ errors.Memory)
  pub left : (s : C) → given ≡ variants.Store s → Left old.store s
  pub called : (s : C) → given ≡ variants.Store s → Rose (members.calls old.store) (members.calls s)
  pub never : (error ≡ errors.Memory) ⊎ (error ≡ errors.Journal journal.Store)
  pub cause : IsCause (members.faults old.store) (members.faults (store_given given)) (error ≡ errors.Journal journal.Store)

-- the error names the first position with no digest, if it is not want of memory
abbrev pub IsLacked : {D : Type 0} → (ℕ → Option D) → List ℕ → Error → Type 0
IsLacked at positions error = (error ≡ errors.Memory) ⊎ ((p : ℕ) × (first_lacked at positions ≡ Some p) × (error ≡ errors.Merkle (refused.ElementPruned p)))
