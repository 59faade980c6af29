-- What each state of a run over an own store is, whatever its commands were.
use Rattle.std.specs.Prelude.{◌≡◌, ◌≤◌, ◌<◌, ◌^◌, ℕ, List, length, All, Contains, true, Option, Some, ⊤}
use Rattle.qm_model.specs.Operations.{Operation}
use Rattle.qm_model.specs.Live.{floor}
use Rattle.qm_model.specs.Walk.{Rules}
use Rattle.qm_model.specs.Forms.{IsOf}
use Rattle.qm_model.specs.Ordered.{IsRing}
use Rattle.qm_model.specs.Opening.{opens, opening, opened_list}
use Rattle.qm_model.specs.Step.{Made, IsGood}
use Rattle.qm_model.specs.Batches.{IsAmong, IsRising, Begins}
use Rattle.qm_model.specs.Own.{IsKept, KeepsCount, taken_up}
use Rattle.qm_model.specs.Policies.{policies}
use Rattle.qm_machine.specs.Machine.{State, Slot, gone, writing, staged, merkleized, slot_at, found_in}
use Rattle.qm_model.specs.Schemes.{Scheme, kind_of, engine_of, layout_of}

-- a batch's lists are among those that the run has had; its base begins with those of its kept ancestors, and its tip with its base
abbrev pub IsSoundSlot : List (List Operation) → Slot → Type 0
IsSoundSlot had gone = ⊤
IsSoundSlot had (writing chain parent ws) = IsAmong had chain × IsRising chain
IsSoundSlot had (staged chain parent ws keys) = IsAmong had chain × IsRising chain
IsSoundSlot had (merkleized chain tip evicted) = IsAmong had chain × IsRising chain × Contains had tip × Begins chain.base tip

-- What a command has to know of that, whatever the policies are: the store's operations are of the machine's form, and not too many; what an
-- opening takes up of them is good, that of an ordered database a ring, and its floor not below the store's start; what metadata counts of
-- the store's list, or of one that an opening takes up, it counts of each that goes on; the open database's list is the store's, and its
-- floor is within it; of two lists that the run has had, one of which begins with the other, that one has no lower floor.
pub record IsSteady (m : Scheme) (s : State) : Type 0 where
  pub of_form : All (IsOf m.form) s.log.list
  pub good : (bound : Option ℕ) (size : ℕ) → opening (layout_of m) (found_in m s.log) bound ≡ opens size → IsGood (opened_list size s.log.list)
  pub ring : (bound : Option ℕ) (size : ℕ) → opening (layout_of m) (found_in m s.log) bound ≡ opens size → m.form.ordered ≡ true → IsRing (opened_list size s.log.list)
  pub low : (bound : Option ℕ) (size : ℕ) → opening (layout_of m) (found_in m s.log) bound ≡ opens size → s.log.start ≤ floor (opened_list size s.log.list)
  pub counts : KeepsCount (engine_of m policies) s.log
  pub opened_counts : (bound : Option ℕ) (size : ℕ) → opening (layout_of m) (found_in m s.log) bound ≡ opens size → KeepsCount (engine_of m policies) (taken_up (opened_list size s.log.list) s.log)
  pub few : length s.log.list ≤ 2 ^ 62
  pub held : (list : List Operation) → s.database ≡ Some list → (s.log.list ≡ list) × Contains s.had list
  pub within : (list : List Operation) → s.database ≡ Some list → floor list < length list
  pub floors : (older newer : List Operation) → Contains s.had older → Contains s.had newer → Begins older newer → floor older ≤ floor newer
  pub slots : (h : ℕ) → IsSoundSlot s.had (slot_at s.table h)

-- The store is one that databases under these policies leave; the open database's list is the store's, and one of those that
-- the run has had; steps made all of these.
pub record IsSound (m : Scheme) {P : Type 0} (rules : Rules P) (s : State) : Type 0 where
  pub kept : IsKept (engine_of m rules) s.log
  pub held : (list : List Operation) → s.database ≡ Some list → (s.log.list ≡ list) × Contains s.had list
  pub made : (list : List Operation) → Contains s.had list → Made (kind_of m) rules list
  pub slots : (h : ℕ) → IsSoundSlot s.had (slot_at s.table h)
