-- What a store in memory is after its calls.
use Rattle.std.proofs.Common.{◌≡◌, ◌≢◌, ℕ, ap, sym, subst, refl, arith, Result, Ok, Err}
use Rattle.std.specs.Prelude.{OnOk, OnErr}
use Rattle.qm_model.specs.Causes.{Rose}
use Rattle.qm_model.specs.StoreModel.{Stored, restarted, HasRestarted}
use Rattle.qm_model.proofs.Stores as stored
use Rattle.qm_store.specs.declared.StoreError.{StoreError}
use Rattle.qm_store.specs.declared.StoreError.TheVariants as stores
use Rattle.qm_memory.specs.Changes.{restarting}
use Rattle.qm_memory.specs.Mem.{Mem, IsInside, one_more, called, failed, made, chosen}

-- A call is counted.

more-calls : (old new : Mem) → new.calls ≡ one_more old.calls → Rose old.calls new.calls
more-calls old new is = omega (arith, is)

-- one that changes the store
pub counted-made : {T : Type 0} (result : Result T StoreError) (old new : Mem) → (result ≡ Err stores.Failed → new ≡ failed old) → (result ≡ Err stores.Memory → new ≡ called old) → OnOk result (new.calls ≡ one_more old.calls) → Rose old.calls new.calls
counted-made (Ok x) old new fault memory done = more-calls old new done
counted-made (Err stores.Memory) old new fault memory done = more-calls old new (ap (λ m. m.calls) (memory refl))
counted-made (Err stores.Failed) old new fault memory done = more-calls old new (ap (λ m. m.calls) (fault refl))

-- one that reads
pub counted-asked : {T : Type 0} (result : Result T StoreError) (old new : Mem) → (result ≡ Err stores.Failed → new ≡ failed old) → (result ≢ Err stores.Failed → new ≡ called old) → Rose old.calls new.calls
counted-asked (Ok x) old new fault other = more-calls old new (ap (λ m. m.calls) (other (λ e. absurd (cc e))))
counted-asked (Err stores.Memory) old new fault other = more-calls old new (ap (λ m. m.calls) (other (λ e. absurd (cc e))))
counted-asked (Err stores.Failed) old new fault other = more-calls old new (ap (λ m. m.calls) (fault refl))

-- A call that failed.

-- it left what was held
pub held-on_err : {T : Type 0} (result : Result T StoreError) (old new : Mem) → (result ≡ Err stores.Failed → new ≡ failed old) → (result ≡ Err stores.Memory → new ≡ called old) → OnErr result (new.held ≡ old.held)
held-on_err (Ok x) old new fault memory = tt
held-on_err (Err stores.Memory) old new fault memory = ap (λ m. m.held) (memory refl)
held-on_err (Err stores.Failed) old new fault memory = ap (λ m. m.held) (fault refl)

-- and so what such a call may leave
pub kept-on_err : {T E : Type 0} (result : Result T E) (old new : Stored) (R : Stored → Stored → Type 0) → OnErr result (new ≡ old) → R old old → OnErr result (R old new)
kept-on_err (Ok x) old new R same kept = tt
kept-on_err (Err e) old new R same kept = subst (λ s. R old s) (sym same) kept

-- what a store in memory holds has its stable length inside
pub held-inside : (m : Mem) → IsInside m → stored.IsInside m.held
held-inside m inside = record { start = inside.start; stable = inside.stable }

-- a restart chose an end
pub restart-chose : {T E : Type 0} (result : Result T E) (old new : Mem) (keep : ℕ) → IsInside old → OnOk result (new ≡ made (λ s. restarting (chosen keep s) s) (λ s. restarted (chosen keep s) s) old) → OnOk result (HasRestarted old.held new.held)
restart-chose (Err e) old new keep inside is = tt
restart-chose (Ok x) old new keep inside is = record {
  to = chosen keep old.held;
  may = record { stable = omega arith; within = omega (arith, inside.stable) };
  same = ap (λ m. m.held) is;
}
