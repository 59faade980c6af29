-- What the reason that a read failed for is not.
use Rattle.std.proofs.Common.{◌≡◌, ◌≢◌, ◌≤◌, ◌<◌, ⊎_elim, refl, Bool, true, false, ℕ, List, Option, inl, inr}
use Rattle.std.proofs.lemmas.Bool.{cases_lt}
use Rattle.std.specs.Prelude.{◌⊎◌, Result, Ok, Err, IfErr, OnOk}
use Rattle.qm_model.specs.Causes.{Rose}
use Rattle.qm_model.specs.Refused.{Refused}
use Rattle.qm_model.specs.Trees.{Shape, peak_positions}
use Rattle.qm_base.specs.declared.error.Error.{Error}
use Rattle.qm_base.specs.declared.error.Error.TheVariants as errors
use Rattle.qm_base.specs.declared.error.JournalError.TheVariants as journal
use Rattle.qm_base.specs.declared.error.TreeRefused.TheVariants as refused
use Rattle.qm_store.specs.declared.Store as store
use Rattle.qm_store.specs.Log.{IsLacked, Log}
use Rattle.qm_merkle.specs.Mems.{Kept, node_at}
use Rattle.qm_store.specs.Reads.{IsReadError}
use Rattle.qm_store.specs.Refusals.{IsAmong}
use Rattle.qm_any.specs.Reasons.{IsNodeError, IsPinsError, IsProofError}

-- no read is refused as stale
pub read-fresh : {C D : Type 0} (members : store.Ghosts C) (old new : Log C D) (e : Error) → IsReadError members old new e → e ≢ errors.StaleBatch
read-fresh members old new e (inl memory) stale = absurd (cc (memory, stale))
read-fresh members old new e (inr (inl failed)) stale = absurd (cc (failed.0, stale))
read-fresh members old new e (inr (inr pruned)) stale = absurd (cc (pruned.2, stale))

-- if a read failed in the store, the store's faults rose
pub read-cause : {C D : Type 0} (members : store.Ghosts C) (old new : Log C D) (e : Error) → IsReadError members old new e → e ≡ errors.Journal journal.Store → Rose (members.faults old.store) (members.faults new.store)
read-cause members old new e (inl memory) fault = absurd (cc (memory, fault))
read-cause members old new e (inr (inl failed)) fault = failed.1
read-cause members old new e (inr (inr pruned)) fault = absurd (cc (pruned.2, fault))

-- what holds anyway holds if all went well
pub on-ok : {T E : Type 0} (done : Result T E) {P : Type 0} → P → OnOk done P
on-ok (Ok value) holds = holds
on-ok (Err e) holds = tt

module _ {D : Type 0} (at : ℕ → Option D) (positions : List ℕ) (e : Error) where
  -- a digest that is lacked is no stale read
  pub lacked-fresh : IsLacked at positions e → e ≢ errors.StaleRead
  lacked-fresh (inl memory) stale = absurd (cc (memory, stale))
  lacked-fresh (inr (p, first, lacked)) stale = absurd (cc (lacked, stale))

  -- and has a position
  pub lacked-never : IsLacked at positions e → (e ≡ errors.Memory) ⊎ ((e ≡ errors.StaleRead) ⊎ ((p : ℕ) × (e ≡ errors.Merkle (refused.ElementPruned p))))
  lacked-never (inl memory) = inl memory
  lacked-never (inr (p, first, lacked)) = inr (inr (p, lacked))

  -- so it is that of nodes that are asked for if the database's state is known
  pub lacked-node : (known : Bool) → known ≡ true → IsLacked at positions e → IsNodeError known at positions e
  lacked-node known is lacked = record {
    stale = λ stale. absurd (lacked-fresh lacked stale);
    never = lacked-never lacked;
    order = λ other fresh. is;
    lacked = λ fresh. lacked;
  }

  -- and a stale read is one where it is not
  pub stale-node : (known : Bool) → known ≡ false → e ≡ errors.StaleRead → IsNodeError known at positions e
  stale-node known off stale = record {
    stale = λ same. off;
    never = inr (inl stale);
    order = λ other fresh. absurd (fresh stale);
    lacked = λ fresh. absurd (fresh stale);
  }

-- why there is no proof, by three clauses
pub proof-error : {X C D : Type 0} (members : store.Ghosts C) (reasons : List Refused) (old new : Log C D) (r : Result X Error) → IfErr r (λ e. IsAmong e reasons) → IfErr r (λ e. e ≢ errors.StaleBatch)
    → IfErr r (λ e. e ≡ errors.Journal journal.Store → Rose (members.faults old.store) (members.faults new.store)) → IfErr r (IsProofError members reasons old new)
proof-error members reasons old new (Ok x) causes fresh cause = tt
proof-error members reasons old new (Err e) causes fresh cause = record { causes = causes; fresh = fresh; cause = cause }

-- why there are no pins
pub pins-error : {X D : Type 0} (shape : Shape) (tree : Kept D) (start size at : ℕ) (r : Result X Error) → (size < at → r ≡ Err (errors.Merkle (refused.RangeOutOfBounds at)))
    → (at ≤ size → IfErr r (IsLacked (node_at shape tree) (peak_positions shape at))) → (start ≤ at → at ≤ size → IfErr r (λ e. e ≡ errors.Memory)) → IfErr r (IsPinsError shape tree start size at)
pins-error shape tree start size at (Ok x) range cause whole = tt
pins-error {X} shape tree start size at (Err e) range cause whole = record { lacked = cause; whole = whole; never = ⊎_elim (λ past. ranged (Err e) refl (range past)) (λ within. other (cause within)) (cases_lt size at) }
  where
    ranged : (r : Result X Error) → r ≡ Err e → r ≡ Err (errors.Merkle (refused.RangeOutOfBounds at)) → (e ≢ errors.StaleBatch) × (e ≢ errors.Journal journal.Store)
    ranged r is far = (λ stale. absurd (cc (is, far, stale)), λ fault. absurd (cc (is, far, fault)))

    other : IsLacked (node_at shape tree) (peak_positions shape at) e → (e ≢ errors.StaleBatch) × (e ≢ errors.Journal journal.Store)
    other (inl memory) = (λ stale. absurd (cc (memory, stale)), λ fault. absurd (cc (memory, fault)))
    other (inr (p, first, lacked)) = (λ stale. absurd (cc (lacked, stale)), λ fault. absurd (cc (lacked, fault)))
