-- What calls leave of a current database that make its operations stable, count what is pruned of it, or prune it.
use Rattle.std.specs.Prelude.{◌≡◌, ◌⊎◌, ◌≤◌, ℕ, ◌*◌, ◌/◌, max, min, List, Result, Ok, Err}
use Rattle.qm_model.specs.Operations.{Bytes, Operation}
use Rattle.qm_model.specs.Trees.{Shape}
use Rattle.qm_model.specs.Grafted.{metadata, sync_boundary}
use Rattle.qm_model.specs.Opening.{count_in, entries_of}
use Rattle.qm_model.specs.StoreModel.{Entry, Stored, with_metadata, Fails, IsOldOrNew, ReadsAs, Turns}
use Rattle.qm_graft.specs.Grafting.{grafting}
use Rattle.qm_store.specs.declared.Store as store
use Rattle.qm_store.specs.declared.refusal.Given.TheVariants.{Store}
use Rattle.qm_store.specs.declared.refusal.Refusal.{Refusal}
use Rattle.qm_store.specs.Given.{store_given}
use Rattle.qm_store.specs.Log as logs
use Rattle.qm_roots.specs.Canonical.{Canonical, IsCanonical}
use Rattle.qm_any.specs.Databases as anys
use Rattle.qm_any.specs.Applying as anys_applying
use Rattle.qm_any.specs.Layouts.{Layout}
use Rattle.qm_any.specs.Lasting as lasting
use Rattle.qm_current.specs.Applying.{store_in}
use Rattle.qm_current.specs.Databases.{Database}

-- up to where a list of this floor and size may be pruned, over chunks of so many bytes: no list has its floor past its end
abbrev pub boundary_from : Shape → ℕ → ℕ → ℕ → ℕ
boundary_from shape chunk floor size = sync_boundary shape (grafting chunk) (min floor size) size

-- up to where a database may be pruned
abbrev pub boundary_of : {C D : Type 0} → Shape → ℕ → Database C D → ℕ
boundary_of shape chunk db = boundary_from shape chunk db.any.floor db.any.commitment.size

-- how many of its chunks are pruned after a prune to a location
abbrev pub chunks_after : {C D : Type 0} → ℕ → ℕ → Database C D → ℕ
chunks_after chunk to db = max db.any.activity.pruned (to / (8 * chunk))

-- what a refused call of the any database gives back: its store
abbrev pub given_up : {C D : Type 0} → Refusal (anys.Database C D) C → Refusal (Database C D) C
given_up refusal = record { given = Store (store_given anys_applying.store_in refusal.given); error = refusal.error }

-- the database over the any one that a call left, or the store if the call was refused
abbrev pub over_any : {C D : Type 0} → Canonical D → ℕ → Bytes → Result (anys.Database C D) (Refusal (anys.Database C D) C) → Result (Database C D) (Refusal (Database C D) C)
over_any canonical instance name (Ok any) = Ok (record { any = any; canonical = canonical; instance = instance; name = name })
over_any canonical instance name (Err refusal) = Err (given_up refusal)

-- entries count so many chunks, with the pins there of the list of a grafted tree
pub record AreEntries {D : Type 0} (layout : Layout D) (own : Canonical D) (count : ℕ) (entries : List Entry) : Type 0 where
  pub count_is : count_in entries ≡ count
  pub pins : (list : List Operation) → IsCanonical layout.hashing.bytes layout.hashing.hash layout.hashing.shape layout.chunk layout.hashing.form own list
      → entries ≡ entries_of (metadata layout.hashing.hash layout.hashing.shape (grafting layout.chunk) layout.hashing.form list count)

-- a call failed that puts metadata, and a crash inside it would have left the same
abbrev pub FailsPut : Bytes → List Entry → Stored → Stored → Type 0
FailsPut name entries = Fails (λ s. ReadsAs s.stable (IsOldOrNew (with_metadata name entries) s)) (λ s. ReadsAs s.stable (IsOldOrNew (with_metadata name entries) s))

-- Stores that were made something first.
module _ {C D : Type 0} (members : store.Ghosts C) (layout : Layout D) (f : Stored → Stored) where
  -- the database has what it had, but that its store was made this
  pub record HasLasted (old new : Database C D) : Type 0 where
    pub any : lasting.HasLasted members layout.hashing f old.any new.any
    pub rest : new ≡ record old { any = new.any }

  -- and then got metadata under the database's name, which counts what is pruned of it
  pub record HasCounted (old new : Database C D) : Type 0 where
    pub entries : List Entry
    pub counts : AreEntries layout old.canonical old.any.activity.pruned entries
    pub any : lasting.HasLasted members layout.hashing (λ s. with_metadata old.name entries (f s)) old.any new.any
    pub rest : new ≡ record old { any = new.any }

  -- and then got metadata that counts the chunks up to a location too, which went then: their bits, their leaves of the grafted tree, and
  -- what stood before the location in the store
  pub record HasPruned (to : ℕ) (old new : Database C D) : Type 0 where
    pub entries : List Entry
    pub counts : AreEntries layout old.canonical (chunks_after layout.chunk to old) entries
    pub any : lasting.HasPruned members layout (λ s. with_metadata old.name entries (f s)) to old.any new.any
    pub forgotten : new.canonical.tree.start ≡ chunks_after layout.chunk to old
    pub rest : new ≡ record old { any = new.any; canonical = record old.canonical { tree = new.canonical.tree } }

  -- a call failed that puts metadata which counts so many chunks: it is there or not, and a crash inside it would have left the same
  pub record HasLeftCounted (count : ℕ) (old : Database C D) (new : C) : Type 0 where
    pub start : members.start new ≡ members.start (store_in old)
    pub within : members.«end» new ≤ members.«end» (store_in old)
    pub entries : List Entry
    pub counts : AreEntries layout old.canonical count entries
    pub told : Turns (members.told (store_in old)) (members.told new) (λ s. FailsPut old.name entries (f s))

  -- or none was put
  abbrev pub HasLeftUncounted : ℕ → Database C D → C → Type 0
  HasLeftUncounted count old new = logs.HasBecome members (store_in old) new f ⊎ HasLeftCounted count old new

  -- a prune to a location after the start failed after its metadata was put
  pub record HasLeftPruned (to : ℕ) (old : Database C D) (new : C) : Type 0 where
    pub entries : List Entry
    pub counts : AreEntries layout old.canonical (chunks_after layout.chunk to old) entries
    pub any : lasting.HasLeftPruned members layout.hashing (λ s. with_metadata old.name entries (f s)) to old.any.log new
