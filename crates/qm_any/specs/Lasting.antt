-- What calls leave of a database that make its operations stable, prune them, change its store's metadata, or destroy it.
use Rattle.std.specs.Prelude.{◌≡◌, ◌⊎◌, ◌≤◌, ◌<◌, ℕ, ◌-◌, ◌*◌, ◌/◌, max, min, nat_lt, if◌then◌else◌, List, drop, Result, Ok, Err}
use Rattle.qm_model.specs.Causes.{IsCause}
use Rattle.qm_model.specs.Operations.{Bytes}
use Rattle.qm_model.specs.StoreModel.{Stored, pruned, destroyed, IsImage, IsOldOrNew, DestroyLeaves, ReadsAs, Fails, Turns, Becomes, Leaves}
use Rattle.qm_base.specs.declared.error.Error.TheVariants.{Memory, Journal}
use Rattle.qm_base.specs.declared.error.JournalError.TheVariants as journal
use Rattle.qm_bits.specs.Bitmaps.{Bitmap}
use Rattle.qm_store.specs.declared.Store as store
use Rattle.qm_store.specs.declared.log.LogRefusal.{LogRefusal}
use Rattle.qm_store.specs.declared.refusal.Given.TheVariants.{Store}
use Rattle.qm_store.specs.declared.refusal.Refusal.{Refusal}
use Rattle.qm_store.specs.Log as logs
use Rattle.qm_store.specs.Log.{Log, IsLog, IsHead, HasLeft, digests_from}
use Rattle.qm_any.specs.Layouts.{Hashing, Layout}
use Rattle.qm_any.specs.Databases.{Database, State, over}

-- what a refused call of a log gives back: its store
abbrev pub given_up : {C D X : Type 0} → LogRefusal (Log C D) C → Refusal X C
given_up refusal = record { given = Store (logs.store_given refusal.given); error = refusal.error }

-- the database over the log that a call left, or the store if the call was refused
abbrev pub over_log : {C D : Type 0} → State → Result (Log C D) (LogRefusal (Log C D) C) → Result (Database C D) (Refusal (Database C D) C)
over_log state (Ok log) = Ok (over state log)
over_log state (Err refusal) = Err (given_up refusal)

-- up to where a database may be pruned: its floor, which no list has past its end
abbrev pub boundary_of : {C D : Type 0} → Database C D → ℕ
boundary_of db = min db.floor db.commitment.size

-- bits of which no chunk is kept that ends at or before a location
abbrev pub bits_from : ℕ → ℕ → Bitmap → Bitmap
bits_from chunk to bits = record { pruned = max bits.pruned (to / (8 * chunk)); kept = drop ((to / (8 * chunk) - bits.pruned) * (8 * chunk)) bits.kept }

-- a store, of a log that starts here, pruned to a location, with this head, if that is after the start
abbrev pub cut_to : ℕ → ℕ → Bytes → Stored → Stored
cut_to start to head s = if nat_lt start to then pruned to head s else s

-- a prune to a location with this head failed, and a crash inside it would have left the same
abbrev pub FailsPrune : ℕ → Bytes → Stored → Stored → Type 0
FailsPrune to head = Fails (λ s. ReadsAs s.stable (IsOldOrNew (pruned to head) s)) (λ s. ReadsAs s.stable (IsOldOrNew (pruned to head) s))

module _ {C : Type 0} (members : store.Ghosts C) where
  -- a store is given back, as the call left it that failed
  pub record IsGivenUp {X : Type 0} (Left : C → C → Type 0) (old : C) (refusal : Refusal X C) : Type 0 where
    pub store : C
    pub given : refusal.given ≡ Store store
    pub left : Left old store
    pub never : (refusal.error ≡ Memory) ⊎ (refusal.error ≡ Journal journal.Store)
    pub cause : IsCause (members.faults old) (members.faults store) (refusal.error ≡ Journal journal.Store)

  -- a commit or a sync failed
  abbrev pub HasLeftStable : C → C → Type 0
  HasLeftStable = HasLeft members (λ s. ReadsAs s.stable (IsImage s))

  -- a destroy failed
  pub record HasLeftDestroyed (old new : C) : Type 0 where
    pub within : members.«end» new ≤ members.«end» old
    pub told : Leaves (members.told old) (members.told new) DestroyLeaves

  -- a store was emptied
  pub record IsDestroyed (old new : C) : Type 0 where
    pub start : members.start new ≡ 0
    pub end : members.«end» new ≡ 0
    pub told : Becomes (members.told old) (members.told new) destroyed
    pub later : members.faults old ≤ members.faults new

module _ {C D : Type 0} (members : store.Ghosts C) where
  -- the database has what it had, but that its store was made this
  pub record HasLasted (hashing : Hashing D) (f : Stored → Stored) (old new : Database C D) : Type 0 where
    pub rest : new ≡ record old { log = new.log }
    pub stands : (items : List Bytes) → IsLog members hashing.shape hashing.bytes hashing.hash old.log items → IsLog members hashing.shape hashing.bytes hashing.hash new.log items
    pub tree : new.log.tree ≡ old.log.tree
    pub store : logs.HasBecome members old.log.store new.log.store f
    pub later : members.faults old.log.store ≤ members.faults new.log.store

  -- the head is that of the log's list at a location
  abbrev pub IsHeadAt : Hashing D → ℕ → Log C D → Bytes → Type 0
  IsHeadAt hashing to log head = (items : List Bytes) → IsLog members hashing.shape hashing.bytes hashing.hash log items → IsHead hashing.shape hashing.bytes hashing.hash to (digests_from hashing.hash hashing.shape 0 items) head

  -- the database has what it had, but that its store was made this and then pruned to a location, and so were its bits
  pub record HasPruned (layout : Layout D) (f : Stored → Stored) (to : ℕ) (old new : Database C D) : Type 0 where
    pub rest : new ≡ record old { log = new.log; activity = bits_from layout.chunk to old.activity }
    pub start : new.log.tree.start ≡ max old.log.tree.start to
    pub size : new.log.tree.leaves ≡ old.log.tree.leaves
    pub head : Bytes
    pub heads : old.log.tree.start < to → IsHeadAt layout.hashing to old.log head
    pub told : Becomes (members.told old.log.store) (members.told new.log.store) (λ s. cut_to old.log.tree.start to head (f s))
    pub later : members.faults old.log.store ≤ members.faults new.log.store

  -- the same if its bits were left, and nothing came before
  pub record HasPrunedLog (hashing : Hashing D) (to : ℕ) (old new : Database C D) : Type 0 where
    pub rest : new ≡ record old { log = new.log }
    pub start : new.log.tree.start ≡ max old.log.tree.start to
    pub size : new.log.tree.leaves ≡ old.log.tree.leaves
    pub head : Bytes
    pub heads : old.log.tree.start < to → IsHeadAt hashing to old.log head
    pub told : Becomes (members.told old.log.store) (members.told new.log.store) (cut_to old.log.tree.start to head)
    pub later : members.faults old.log.store ≤ members.faults new.log.store

  -- a store was made this, and then a prune to a location after its start failed
  pub record HasLeftPruned (hashing : Hashing D) (f : Stored → Stored) (to : ℕ) (log : Log C D) (new : C) : Type 0 where
    pub past : log.tree.start < to
    pub within : members.«end» new ≤ members.«end» log.store
    pub head : Bytes
    pub heads : IsHeadAt hashing to log head
    pub told : Turns (members.told log.store) (members.told new) (λ s. FailsPrune to head (f s))
