-- What an opening makes of a list.
use Rattle.std.specs.Prelude.{◌≡◌, ◌⊎◌, ◌≤◌, ◌<◌, ◌*◌, ℕ, true, List, [], length, is_none, Option, None, IfSome, Result, IfErr, OnOk}
use Rattle.std.specs.List.{list_any}
use Rattle.qm_model.specs.Causes.{IsCause}
use Rattle.qm_model.specs.Refused.{Refused}
use Rattle.qm_model.specs.StoreModel.{Stored}
use Rattle.qm_model.specs.Bits.{bits}
use Rattle.qm_model.specs.Forms.{Form}
use Rattle.qm_model.specs.Live.{live, last_metadata}
use Rattle.qm_model.specs.Operations.{Bytes, Operation}
use Rattle.qm_model.specs.Trees.{Shape, ops_root, peaks}
use Rattle.qm_base.specs.declared.error.Corrupt.TheVariants.{HeadDoesNotMatch, ItemDoesNotDecode}
use Rattle.qm_base.specs.declared.error.Error.TheVariants.{Memory, DataCorrupted, Journal}
use Rattle.qm_base.specs.declared.error.JournalError.TheVariants as journal
use Rattle.qm_bits.specs.Bitmaps.{Bitmap, all_bits, bit_count}
use Rattle.qm_index.specs.Indexed.{IsIndexed}
use Rattle.qm_store.specs.declared.Store as store
use Rattle.qm_store.specs.declared.refusal.Given.TheVariants.{Store}
use Rattle.qm_store.specs.declared.refusal.Refusal.{Refusal}
use Rattle.qm_store.specs.Log.{Log, IsKept, IsLog}
use Rattle.qm_store.specs.Refusals.{IsDue}
use Rattle.qm_build.specs.Reads.{items_within, HasOperations}
use Rattle.qm_open.specs.declared.select.Selected.{Selected}

-- a log has the list, and beside it stand what is the list's: the places of its live keys, their count, its bits in chunks
-- of so many bytes, its root and its last metadata
pub record IsOpened {C D : Type 0} (members : store.Ghosts C) (shape : Shape) (bytes : D → Bytes) (hash : Bytes → Bytes) (form : Form) (index_key : Bytes → ℕ) (size : ℕ)
    (log : Log C D) (entries : List (ℕ × List ℕ)) (live_keys : ℕ) (activity : Bitmap) (root : Bytes) (metadata : Option Bytes) (list : List Operation) : Type 0 where
  pub has : HasOperations members shape bytes hash form log list
  pub indexed : IsIndexed index_key entries list
  pub counted : live_keys ≡ length (live list)
  pub active : all_bits size activity ≡ bits list
  pub root_is : root ≡ ops_root hash shape form list
  pub metadata_is : metadata ≡ last_metadata list

-- a refusal gives back the store, which has what it had, and a fault of it is told by its count
abbrev pub GivesBack : {C X : Type 0} → store.Ghosts C → C → Refusal X C → Type 0
GivesBack {C} members old r = (s : C) × (r.given ≡ Store s) × IsKept members old s × IsCause (members.faults old) (members.faults s) (r.error ≡ Journal journal.Store)

-- A log was made of a store, which ends at this size, and beside it a count of live keys and bits, one for each item, of which this number
-- of chunks is pruned.
pub record IsMadeOf {C D : Type 0} (members : store.Ghosts C) (chunk : ℕ) (old : C) (size chunks : ℕ) (log : Log C D) (live_keys : ℕ) (activity : Bitmap) : Type 0 where
  pub ends : log.tree.leaves ≡ size
  pub kept : IsKept members old log.store
  pub later : members.faults old ≤ members.faults log.store
  pub pruned : activity.pruned ≡ chunks
  pub bits : (bit_count chunk activity ≡ size) × (live_keys ≤ size)

-- A store is opened only if there is no cause to refuse it; a named refusal is this one, and gives back the store.
pub record IsJudged {C X A : Type 0} (members : store.Ghosts C) (old : C) (due : Stored → Option Refused) (result : Result A (Refusal X C)) : Type 0 where
  pub accepted : IfSome (members.told old) (λ s. OnOk result (due s ≡ None))
  pub refused : IfSome (members.told old) (λ s. IfErr result (λ r. IsDue r.error (due s)))
  pub back : IfErr result (GivesBack members old)

-- the head of a store is as long as the digests of the peaks at its start
abbrev pub HasLongHead : {C : Type 0} → store.Ghosts C → Shape → ℕ → C → Stored → Type 0
HasLongHead members shape digest_size old s = length s.head ≡ length (peaks shape (members.start old)) * digest_size

-- A store was not read: it is given back, for want of memory, by a fault, or as its head has another length, or, if that is right, an
-- item from the selected floor on spells no operation.
pub record IsUnread {C X : Type 0} (members : store.Ghosts C) (shape : Shape) (digest_size : ℕ) (form : Form) (old : C) (at : Selected) (r : Refusal X C) : Type 0 where
  pub back : GivesBack members old r
  pub other_head : r.error ≡ DataCorrupted HeadDoesNotMatch → IfSome (members.told old) (λ s. ¬ HasLongHead members shape digest_size old s)
  pub undecoded : r.error ≡ DataCorrupted ItemDoesNotDecode → IfSome (members.told old) (λ s. HasLongHead members shape digest_size old s × (list_any is_none (items_within form s at.floor at.size) ≡ true))
  pub never : (r.error ≡ Memory) ⊎ ((r.error ≡ Journal journal.Store) ⊎ ((r.error ≡ DataCorrupted HeadDoesNotMatch) ⊎ (r.error ≡ DataCorrupted ItemDoesNotDecode)))

-- An empty log was made of an empty store, whose head has no byte.
pub record IsEmptyLog {C D : Type 0} (members : store.Ghosts C) (shape : Shape) (bytes : D → Bytes) (hash : Bytes → Bytes) (old : C) (log : Log C D) : Type 0 where
  pub stands : IsLog members shape bytes hash log []
  pub kept : IsKept members old log.store
  pub later : members.faults old ≤ members.faults log.store
  pub bare : IfSome (members.told old) (λ s. s.head ≡ [])

-- None was: the store is given back, for want of memory, by a fault, or as its head has a byte.
pub record IsNoLog {C X : Type 0} (members : store.Ghosts C) (old : C) (r : Refusal X C) : Type 0 where
  pub back : GivesBack members old r
  pub head : r.error ≡ DataCorrupted HeadDoesNotMatch → IfSome (members.told old) (λ s. 0 < length s.head)
  pub causes : (r.error ≡ Memory) ⊎ ((r.error ≡ Journal journal.Store) ⊎ (r.error ≡ DataCorrupted HeadDoesNotMatch))
