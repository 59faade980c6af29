-- What comes of applying a batch.
use Rattle.std.specs.Prelude.{◌≡◌, ◌⊎◌, ◌≤◌, Bool, false, List, [], map, drop, if◌then◌else◌, Result, IfOk, IfErr}
use Rattle.qm_model.specs.Causes.{IsCause, Rose}
use Rattle.qm_model.specs.Forms.{Form, spelling}
use Rattle.qm_model.specs.Operations.{Bytes, Operation}
use Rattle.qm_model.specs.StoreModel.{except_items}
use Rattle.qm_base.specs.declared.error.Error.TheVariants.{Memory, StaleBatch, Journal}
use Rattle.qm_base.specs.declared.error.JournalError.TheVariants as journal
use Rattle.qm_chain.specs.Bounds.{is_at}
use Rattle.qm_store.specs.declared.Store as store
use Rattle.qm_store.specs.declared.refusal.Given.TheVariants as given
use Rattle.qm_store.specs.declared.refusal.Refusal.{Refusal}
use Rattle.qm_store.specs.Given.{Appended, AppendedPart, store_given}
use Rattle.qm_any.specs.Databases.{Database, Made}

-- the batch can be applied: the database is at its boundary or at a kept ancestor's tip
abbrev pub can_apply : {C D : Type 0} → Database C D → Made D → Bool
can_apply db batch = is_at db.commitment batch.bounds.db batch.bounds.ancestors

-- the store of a database
abbrev pub store_in : {C D : Type 0} → Database C D → C
store_in db = db.log.store

-- the spellings that a database lacks of a list
abbrev pub lacked : {C D : Type 0} → Form → Database C D → List Operation → List Bytes
lacked form db list = map (spelling form) (drop db.commitment.size list)

module _ {C : Type 0} (members : store.Ghosts C) where
  -- appends left the rest of a store: where it starts, and what it has beside its items; its count of faults did not fall
  pub record KeepsRest (old new : C) : Type 0 where
    pub start : members.start new ≡ members.start old
    pub others : except_items (members.told new) ≡ except_items (members.told old)
    pub later : members.faults old ≤ members.faults new

  module _ {D : Type 0} (old : Database C D) (batch : Made D) where
    -- the store got what it lacked of the list or, if that was refused and the batch can be applied, a first part of it
    pub record Appends (form : Form) (list : List Operation) (result : Result (Database C D) (Refusal (Database C D) C)) : Type 0 where
      pub grown : IfOk result (λ next. Appended members (store_in old) (store_in next) (lacked form old list))
      pub part : IfErr result (λ r. AppendedPart members (store_in old) (store_given store_in r.given) (if can_apply old batch then lacked form old list else []))

    -- Why a batch was not applied: it is stale, and the database is given back; or memory was short, and the database or its store is; or
    -- the store failed, by which its count rose. That a batch is stale is told first. A database that is given back is as it was; a store
    -- was called.
    pub record IsUnapplied (refusal : Refusal (Database C D) C) : Type 0 where
      pub stale : refusal.error ≡ StaleBatch → (refusal.given ≡ given.Database old) × (can_apply old batch ≡ false)
      pub first : can_apply old batch ≡ false → (refusal.error ≡ StaleBatch) ⊎ (refusal.error ≡ Memory)
      pub back : (x : Database C D) → refusal.given ≡ given.Database x → (x ≡ old) × ((refusal.error ≡ StaleBatch) ⊎ (refusal.error ≡ Memory))
      pub causes : (refusal.error ≡ StaleBatch) ⊎ ((refusal.error ≡ Memory) ⊎ (refusal.error ≡ Journal journal.Store))
      pub called : (s : C) → refusal.given ≡ given.Store s → Rose (members.calls (store_in old)) (members.calls s)
      pub cause : IsCause (members.faults (store_in old)) (members.faults (store_given store_in refusal.given)) (refusal.error ≡ Journal journal.Store)
