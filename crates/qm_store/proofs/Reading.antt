-- What reads of a log leave, one after another.
use Rattle.std.proofs.Common.{◌≡◌, ◌≢◌, ◌⊎◌, ◌↔◌, ◌∙◌, ◌<◌, ◌≤◌, ℕ, Result, Err, ap, inl, inr, refl, arith}
use Rattle.std.specs.Prelude.{IsErrOf}
use Rattle.qm_model.specs.Causes.{IsCause}
use Rattle.qm_model.specs.Operations.{Bytes}
use Rattle.qm_model.specs.Trees.{Shape}
use Rattle.qm_base.specs.Reads.{ItemsTold, IsOfKeptItem}
use Rattle.qm_base.specs.declared.error.Error.{Error}
use Rattle.qm_base.specs.declared.error.Error.TheVariants as errors
use Rattle.qm_base.specs.declared.error.JournalError.TheVariants as journal
use Rattle.qm_base.proofs.Reading as reading
use Rattle.qm_store.specs.declared.Store as store
use Rattle.qm_store.specs.Log.{Log}
use Rattle.qm_store.specs.Reads.{IsKeptLog, IsRead, IsReadError, log_reads}
use Rattle.qm_store.proofs.Stores.{kept-then}

module _ {C D : Type 0} (members : store.Ghosts C) (shape : Shape) (bytes : D → Bytes) (hash : Bytes → Bytes) where
  unread : (a : Log C D) → IsKeptLog members a a
  unread a = record { tree = refl; kept = record { start = refl; end = refl; told = refl }; later = omega arith }

  again : (a b c : Log C D) → IsKeptLog members a b → IsKeptLog members b c → IsKeptLog members a c
  again a b c before after =
      let first = before.later in
      let second = after.later in
      record { tree = after.tree ∙ before.tree; kept = kept-then members a.store b.store c.store before.kept after.kept; later = omega (arith, first, second) }

  abbrev reads : ItemsTold (Log C D)
  reads = log_reads members shape bytes hash

  pub read-none : (a : Log C D) → IsRead members shape bytes hash a a
  read-none = reading.read-none reads unread

  pub read-then : (a b c : Log C D) → IsRead members shape bytes hash a b → IsRead members shape bytes hash b c → IsRead members shape bytes hash a c
  read-then = reading.read-then reads again

  -- an error after reads
  pub error-then : (a b c : Log C D) (e : Error) → IsRead members shape bytes hash a b → IsReadError members b c e → IsReadError members a c e
  error-then = reading.error-then reads (λ a b c before rose. let later = before.later in omega (arith, later, rose))

-- why the read of an item failed, which does not lie below the start if the log begins before it
pub failed-read : {C D T : Type 0} (members : store.Ghosts C) (old new : Log C D) (at : ℕ) (done : Result T Error) (e : Error) → done ≡ Err e →
    (e ≡ errors.Memory) ⊎ ((e ≡ errors.Journal journal.Store) ⊎ (e ≡ errors.Journal (journal.ItemPruned at))) → (done ≡ Err (errors.Journal (journal.ItemPruned at))) ↔ (at < old.tree.start) →
    IsCause (members.faults old.store) (members.faults new.store) (IsErrOf done (errors.Journal journal.Store)) → IsReadError members old new e × (old.tree.start ≤ at → IsOfKeptItem e)
failed-read members old new at done e was (inl memory) pruned cause = (inl memory, λ from n gone. absurd cc)
failed-read members old new at done e was (inr (inl fault)) pruned cause = (inr (inl (fault, cause.failed (was ∙ ap Err fault))), λ from n gone. absurd cc)
failed-read members old new at done e was (inr (inr gone)) pruned cause =
    let low = pruned.0 (was ∙ ap Err gone) in
    (inr (inr (at, low, gone)), λ from n _. absurd (omega (arith, low, from)))
