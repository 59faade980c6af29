-- What comes of an opening whose store was only read before.
use Rattle.std.proofs.Common.{◌≡◌, ◌∙◌, ◌≤◌, ℕ, Option, Some, Result, Ok, Err, ap, sym, subst}
use Rattle.std.specs.Prelude.{IfSome, IsSome}
use Rattle.std.proofs.Math.Nat.{le_trans}
use Rattle.qm_model.specs.Refused.{Refused}
use Rattle.qm_model.specs.StoreModel.{Stored, Turns}
use Rattle.qm_model.specs.Taken.{taken, IsTaken, LeavesOpening}
use Rattle.qm_store.specs.declared.Store as store
use Rattle.qm_store.specs.declared.refusal.Refusal.{Refusal}
use Rattle.qm_store.specs.Given.{store_given}
use Rattle.qm_store.specs.Log.{IsKept}
use Rattle.qm_store.specs.Refusals.{IsDue}
use Rattle.qm_store.proofs.Exits.{later-cause}
use Rattle.qm_store.proofs.Stores.{kept-then}
use Rattle.qm_open.proofs.Checking.{each-known, known-at}
use Rattle.qm_offer.specs.Crashing.{FailsOpening}
use Rattle.qm_any.specs.Databases.{Database}
use Rattle.qm_any.specs.Layouts.{Layout}
use Rattle.qm_any.specs.Offered.{scheme_of}
use Rattle.qm_any.specs.Opening.{Opens}
use Rattle.qm_any.proofs.Taking.{turns-weaker, unchanged-behind}

module _ {C D : Type 0} (members : store.Ghosts C) (layout : Layout D) (digest_size : ℕ) (first middle : C) (kept : IsKept members first middle) (later : members.faults first ≤ members.faults middle)
    (due own : Stored → Option Refused) (same : (s : Stored) → members.told first ≡ Some s → due s ≡ own s)
    (size at : Stored → ℕ) (alike : (s : Stored) → members.told first ≡ Some s → size s ≡ at s)
    (chunks counted : Option ℕ) (fewer : (n : ℕ) → IfSome counted (λ k. n ≡ k) → IfSome chunks (λ k. n ≡ k)) where
  pub opens-behind : (result : Result (Database C D) (Refusal (Database C D) C)) → Opens members layout digest_size own at counted middle result → Opens members layout digest_size due size chunks first result
  opens-behind (Ok db) is = record {
    opened = each-known (members.told first) (λ s told list taken.
        known-at _ (members.told middle) s (kept.told ∙ told) is.opened list (subst (λ n. IsTaken (scheme_of digest_size layout.hashing) s n list) (alike s told) taken));
    offered = each-known (members.told first) (λ s told. same s told ∙ known-at _ (members.told middle) s (kept.told ∙ told) is.offered);
    became = turns-weaker (members.told first) (members.told db.log.store) (λ s t. t ≡ taken (scheme_of digest_size layout.hashing) (at s) s) (λ s t. t ≡ taken (scheme_of digest_size layout.hashing) (size s) s)
        (λ s t told made. made ∙ ap (λ n. taken (scheme_of digest_size layout.hashing) n s) (sym (alike s told)))
        (subst (λ o. Turns o (members.told db.log.store) (λ s t. t ≡ taken (scheme_of digest_size layout.hashing) (at s) s)) kept.told is.became);
    pruned = fewer db.activity.pruned is.pruned;
    refused = each-known (members.told first) (λ s told. tt);
    unopened = tt;
    left = tt;
    failed = tt;
    start = is.start ∙ kept.start;
    later = le_trans later is.later;
    back = tt;
  }
  opens-behind (Err r) is = record {
    opened = each-known (members.told first) (λ s told list taken. tt);
    offered = each-known (members.told first) (λ s told. tt);
    became = tt;
    pruned = tt;
    refused = each-known (members.told first) (λ s told. subst (IsDue r.error) (sym (same s told)) (known-at _ (members.told middle) s (kept.told ∙ told) is.refused));
    unopened = each-known (members.told first) (λ s told some.
        unchanged-behind members first middle (store_given (λ db. db.log.store) r.given) kept (known-at _ (members.told middle) s (kept.told ∙ told) is.unopened (subst IsSome (same s told) some)));
    left = turns-weaker (members.told first) (members.told (store_given (λ db. db.log.store) r.given)) (λ s t. LeavesOpening (scheme_of digest_size layout.hashing) (at s) s t) (λ s t. LeavesOpening (scheme_of digest_size layout.hashing) (size s) s t)
        (λ s t told left. subst (λ n. LeavesOpening (scheme_of digest_size layout.hashing) n s t) (sym (alike s told)) left)
        (subst (λ o. Turns o (members.told (store_given (λ db. db.log.store) r.given)) (λ s t. LeavesOpening (scheme_of digest_size layout.hashing) (at s) s t)) kept.told is.left);
    failed = turns-weaker (members.told first) (members.told (store_given (λ db. db.log.store) r.given)) (λ s. FailsOpening (scheme_of digest_size layout.hashing) (at s) s) (λ s. FailsOpening (scheme_of digest_size layout.hashing) (size s) s)
        (λ s t told failed. subst (λ n. FailsOpening (scheme_of digest_size layout.hashing) n s t) (sym (alike s told)) failed)
        (subst (λ o. Turns o (members.told (store_given (λ db. db.log.store) r.given)) (λ s. FailsOpening (scheme_of digest_size layout.hashing) (at s) s)) kept.told is.failed);
    start = tt;
    later = tt;
    back =
        let back = is.back in
        (back.0, back.1, back.2 ∙ kept.start, (λ some. kept-then members first middle back.0 kept (back.3 some)), later-cause (members.faults first) (members.faults middle) (members.faults back.0) later back.4);
  }
