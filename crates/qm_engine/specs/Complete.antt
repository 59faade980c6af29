-- What a call answers that nothing refuses and in which no fault is told: Ok, or that memory is wanted.
use Rattle.std.specs.Prelude.{◌≡◌, Result, IfErr}
use Rattle.qm_model.specs.Causes.{Rose}
use Rattle.qm_base.specs.declared.error.Error.{Error}
use Rattle.qm_base.specs.declared.error.Error.TheVariants.{Memory}
use Rattle.qm_store.specs.declared.Store as store
use Rattle.qm_store.specs.declared.refusal.Refusal.{Refusal}
use Rattle.qm_store.specs.Given.{store_given}

module _ {C : Type 0} (members : store.Ghosts C) where
  -- of a call that was lent a database with this store, whose store then is that
  abbrev pub IsComplete : C → C → {A : Type 0} → Result A Error → Type 0
  IsComplete old new result = ¬ Rose (members.faults old) (members.faults new) → IfErr result (λ e. e ≡ Memory)

  -- of a call that took a database or its store, and gives it back where it is refused
  abbrev pub IsCompleteOf : {X A : Type 0} → (X → C) → C → Result A (Refusal X C) → Type 0
  IsCompleteOf inside old result = IfErr result (λ r. ¬ Rose (members.faults old) (members.faults (store_given inside r.given)) → r.error ≡ Memory)
