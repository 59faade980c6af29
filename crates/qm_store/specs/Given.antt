-- What a call that takes the database by value leaves, and what it does to the store.
use Rattle.std.specs.Prelude.{◌≡◌, List, [], Result, Ok, Err}
use Rattle.qm_model.specs.Causes.{Rose}
use Rattle.qm_model.specs.Operations.{Bytes}
use Rattle.qm_model.specs.StoreModel.{appended, Turns, Becomes, Grows}
use Rattle.qm_store.specs.declared.Store as store
use Rattle.qm_store.specs.declared.refusal.Given.{Given}
use Rattle.qm_store.specs.declared.refusal.Given.TheVariants.{Database, Store}
use Rattle.qm_store.specs.declared.refusal.Refusal.{Refusal}

-- the store that is given back, by itself or inside the database
abbrev pub store_given : {X C : Type 0} → (X → C) → Given X C → C
store_given inside (Database x) = inside x
store_given inside (Store c) = c

-- the store after a call that answers a database or a refusal
abbrev pub store_after : {X C : Type 0} → (X → C) → Result X (Refusal X C) → C
store_after inside (Ok x) = inside x
store_after inside (Err r) = store_given inside r.given

-- a store was called, and its items grew by these, and else it has what it had
pub record Appended {C : Type 0} (members : store.Ghosts C) (old new : C) (more : List Bytes) : Type 0 where
  pub start : members.start new ≡ members.start old
  pub told : Becomes (members.told old) (members.told new) (appended more)
  pub called : Rose (members.calls old) (members.calls new)

-- they grew by a first part of these, and no fewer are stable, and no more if there are none
pub record AppendedPart {C : Type 0} (members : store.Ghosts C) (old new : C) (more : List Bytes) : Type 0 where
  pub start : members.start new ≡ members.start old
  pub told : Grows (members.told old) (members.told new) more
  pub still : more ≡ [] → Turns (members.told old) (members.told new) (λ s t. t.stable ≡ s.stable)

-- a store has what it had
pub record IsUnchanged {C : Type 0} (members : store.Ghosts C) (old new : C) : Type 0 where
  pub start : members.start new ≡ members.start old
  pub told : members.told new ≡ members.told old
