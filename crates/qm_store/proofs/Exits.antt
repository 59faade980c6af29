-- What a log tells at the exits of a call that may fail.
use Rattle.std.proofs.Common.{◌≡◌, ◌⊎◌, inl, inr, ◌∙◌, ◌-◌, ◌<◌, ◌≤◌, ℕ, List, length, take, drop, ap, sym, subst, refl, arith, Result, Ok, Err, IfSome}
use Rattle.std.proofs.Math.Nat.{le_refl}
use Rattle.std.specs.Prelude.{IsErrOf}
use Rattle.qm_model.specs.Operations.{Bytes}
use Rattle.qm_model.specs.Trees.{Shape}
use Rattle.qm_model.specs.Causes.{IsCause, Rose}
use Rattle.qm_base.specs.declared.error.Corrupt.{Corrupt}
use Rattle.qm_base.specs.declared.error.Error.{Error}
use Rattle.qm_base.specs.declared.error.Error.TheVariants as errors
use Rattle.qm_base.specs.declared.error.JournalError.TheVariants as journal
use Rattle.qm_base.specs.declared.error.TreeRefused.TheVariants as refused
use Rattle.qm_store.specs.declared.Store as store
use Rattle.qm_store.specs.declared.StoreError.{StoreError}
use Rattle.qm_store.specs.declared.StoreError.TheVariants as stores
use Rattle.qm_store.specs.Log.{Log, IsLog, IsKept, log_error}

-- what is at most a bound is not past it
pub unlike : (n bound m : ℕ) → bound ≡ n → m ≤ bound → n < m → ⊥
unlike n bound m same within past = omega arith

-- what is past a bound is not at most that
pub beyond : (n bound m : ℕ) → bound ≡ n → bound < m → m ≤ n → ⊥
beyond n bound m same past within = omega arith

-- an error that is none of a store's is no fault of it
pub other-error : {T : Type 0} (count : ℕ) (e : Error) → (e ≡ errors.Journal journal.Store → ⊥) → IsCause count count (IsErrOf {T = T} (Err e) (errors.Journal journal.Store))
other-error count e other = record { later = le_refl _; failed = λ fault. absurd (other cc) }

-- nor is that of a range
pub range-error : {T : Type 0} (count at : ℕ) → IsCause count count (IsErrOf {T = T} (Err (errors.Merkle (refused.RangeOutOfBounds at))) (errors.Journal journal.Store))
range-error count at = other-error count _ (λ is. absurd cc)

pub pruned-error : {T : Type 0} (count at : ℕ) → IsCause count count (IsErrOf {T = T} (Err (errors.Journal (journal.ItemPruned at))) (errors.Journal journal.Store))
pruned-error count at = other-error count _ (λ is. absurd cc)

-- a loop that is over is at the end
pub over : (start end at : ℕ) → (start ≤ end → at ≤ end) → start ≤ end → end ≤ at → at ≡ end
over start end at within order past = let most = within order in omega arith

-- an error that is handed on is that of the call
pub handed-error : {T U : Type 0} (before now : ℕ) (done : Result T Error) (e : Error) (made : Result U Error) (x : Error) → done ≡ Err e → ((y : Error) × (made ≡ Err y) × (y ≡ e)) →
    IsCause before now (IsErrOf done x) → IsCause before now (IsErrOf made x)
handed-error before now done e made x was exit cause = record {
  later = cause.later;
  failed = λ fault. let same : e ≡ x = cc in cause.failed (was ∙ ap Err same);
}

-- a value is no fault
pub no-error : {T : Type 0} (before now : ℕ) (value : T) (x : Error) → before ≤ now → IsCause before now (IsErrOf (Ok value) x)
no-error before now value x later = record { later = later; failed = λ fault. absurd cc }

-- a log over a store that has what it had stands for the same list
pub log-kept : {C D : Type 0} (members : store.Ghosts C) (shape : Shape) (bytes : D → Bytes) (hash : Bytes → Bytes) (inside old : Log C D) (new : C) (list : List Bytes) → inside ≡ old → IsKept members inside.store new →
    IsLog members shape bytes hash old list → IsLog members shape bytes hash (record { store = new; tree = inside.tree }) list
log-kept members shape bytes hash inside old new list view kept is =
    let was = subst (λ l. IsLog members shape bytes hash l list) (sym view) is in
    record {
      tree = was.tree;
      start = was.start ∙ sym kept.start;
      size = was.size;
      items = subst (λ o. IfSome o (λ held. take (length list - inside.tree.start) held.items ≡ drop inside.tree.start list)) (sym kept.told) was.items;
    }

-- want of memory and a store's fault name no damage
pub undamaged : (e : Error) (x : Corrupt) → (e ≡ errors.Memory) ⊎ (e ≡ errors.Journal journal.Store) → e ≡ errors.DataCorrupted x → ⊥
undamaged e x (inl memory) damaged = absurd cc
undamaged e x (inr fault) damaged = absurd cc

-- nor do they leave more than these two, whatever else an error may be
pub either : {X : Type 0} (e : Error) → (e ≡ errors.Memory) ⊎ (e ≡ errors.Journal journal.Store) → (e ≡ errors.Memory) ⊎ ((e ≡ errors.Journal journal.Store) ⊎ X)
either e (inl memory) = inl memory
either e (inr fault) = inr (inl fault)

-- a cause of a later call is one of both
pub later-cause : {Failed : Type 0} (before between now : ℕ) → before ≤ between → IsCause between now Failed → IsCause before now Failed
later-cause before between now first cause = record {
  later = omega (arith, cause.later);
  failed = λ failed. let rose : Rose between now = cause.failed failed in omega arith;
}

-- a store's error names no item that is gone
pub never-pruned : {T : Type 0} (e : StoreError) {result : Result T Error} {y : Error} (n : ℕ) → result ≡ Err y → y ≡ log_error e → result ≡ Err (errors.Journal (journal.ItemPruned n)) → ⊥
never-pruned stores.Memory n is same pruned = absurd cc
never-pruned stores.Failed n is same pruned = absurd cc

-- what a store's error is as one of a log
pub store-error : (e : StoreError) → (log_error e ≡ errors.Memory) ⊎ (log_error e ≡ errors.Journal journal.Store)
store-error stores.Memory = inl refl
store-error stores.Failed = inr refl
