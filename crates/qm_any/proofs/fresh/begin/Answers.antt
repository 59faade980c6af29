use Rattle.std.proofs.Common.{None, IfOk, ◌≡◌, ◌≤◌, ◌∙◌, ap, map, arith, refl, inl, inr, subst, sym}
use Rattle.std.proofs.lemmas.Result.{IfOk-from_err, err_from_is_err_and}
use Rattle.qm_base.specs.declared.error.Error.TheVariants as errors
use Rattle.qm_model.specs.Operations.{fresh}
use Rattle.qm_model.specs.Forms.{spelling}
use Rattle.qm_model.specs.StoreModel.{settled, appended, Becomes, HasAppended, IsImage, Turns}
use Rattle.qm_model.proofs.Stores.{leaves-now}
use Rattle.qm_model.proofs.Results.{ok-then, err-then}
use Rattle.qm_merkle.proofs.Standing.{peaks-none}
use Rattle.qm_store.specs.Given.{store_given}
use Rattle.qm_store.proofs.Exits.{either, later-cause, undamaged}
use Rattle.qm_any.proofs.Lasting.{turns-behind}
use Rattle.qm_any.proofs.Openings.{fresh-back, plain-due, plain-refusal}
use Rattle.qm_store.proofs.Told.{unchanged-appended-part}
use Rattle.qm_offer.specs.Crashing.{FailsOpening, FailsSettling}
use Rattle.qm_any.proofs.Taking.{fails-grown, given-settling, given-stable, given-unchanged, reads-grown, turns-weaker}
use Rattle.qm_any.proofs.Unapplied.{memory-cause}
use Rattle.qm_open.proofs.Checking.{each-known, known-at, on-ok}
use Rattle.qm_any.proofs.Restoring.{nothing-accepted, nothing-due, refused-none}
use Rattle.qm_any.specs.Databases.{IsDatabase}
use Rattle.qm_any.specs.Layouts.{hashing_of, layout_of}
use Rattle.qm_any.specs.Offered.{scheme_of}
use Rattle.qm_open.proofs.Unopened.{fresh-unfinished, plain-unfinished}
use Rattle.qm_any.proofs.fresh.begin.Goals as goal

pub returns-in-Err-clause-opens : goal.returns-in-Err-clause-opens
returns-in-Err-clause-opens g c =
    let store = c.args.store in
    let told = g.C.Store.told store in
    record {
      opened = each-known told (λ s is list same. tt);
      became = tt;
      left = leaves-now told told (HasAppended (map (spelling g.U.Update.form) fresh)) (λ s. IsImage (appended (map (spelling g.U.Update.form) fresh) s)) (unchanged-appended-part g.C.Store store store (map (spelling g.U.Update.form) fresh) (record { start = refl; told = refl })).told;
      failed = fails-grown (scheme_of g.H.Digest.Digest.SIZE (hashing_of g.H.Digest.Digest.bytes g.H.Hasher g.F.Family g.U.Update)) told told (unchanged-appended-part g.C.Store store store (map (spelling g.U.Update.form) fresh) (record { start = refl; told = refl })).told;
      unopened = each-known told (λ s is some. record { start = refl; told = refl });
      pruned = tt;
      start = tt;
      later = tt;
      offered = each-known told (λ s is. tt);
      refused = each-known told (λ s is. tt);
      back = (
        store,
        refl,
        refl,
        (λ some. plain-refusal errors.Memory (inl refl) some),
        memory-cause (g.C.Store.faults store) (g.C.Store.faults store) errors.Memory (omega arith) refl,
      );
    }

pub returns-in-Err-empty_log-clause-opens : goal.returns-in-Err-empty_log-clause-opens
returns-in-Err-empty_log-clause-opens g c =
    let store = c.args.store in
    let told = g.C.Store.told store in
    let faults = g.C.Store.faults in
    let refusal = c.in-Err-empty_log.refusal in
    let refused = c.in-Err-empty_log.ensures.refused in
    let back = refused.back in
    let own = map (spelling g.U.Update.form) fresh in
    let peaks = peaks-none g.F.Family.shape g.F.Family.births g.met.F.Family.numbered g.met.F.Family.peaked in
    record {
      opened = each-known told (λ s is list same. tt);
      became = tt;
      left = subst (λ given. Turns told (g.C.Store.told (store_given (λ db. db.log.store) given)) (HasAppended own)) (sym back.1) (leaves-now told (g.C.Store.told back.0) (HasAppended own) (λ s. IsImage (appended own s)) (unchanged-appended-part g.C.Store store back.0 own (record { start = back.2.start; told = back.2.told })).told);
      failed =
          let m = scheme_of g.H.Digest.Digest.SIZE (hashing_of g.H.Digest.Digest.bytes g.H.Hasher g.F.Family g.U.Update) in
          subst (λ given. Turns told (g.C.Store.told (store_given (λ db. db.log.store) given)) (FailsOpening m 0)) (sym back.1) (fails-grown m told (g.C.Store.told back.0) (unchanged-appended-part g.C.Store store back.0 own (record { start = back.2.start; told = back.2.told })).told);
      unopened = each-known told (λ s is some. given-unchanged g.C.Store (λ db. db.log.store) refusal.given store back.0 back.1 back.2);
      pruned = tt;
      start = tt;
      later = tt;
      offered = each-known told (λ s is. tt);
      refused = each-known told (λ s is.
          nothing-due g.U.Update.form g.F.Family.shape g.H.Digest.Digest.SIZE s (known-at _ told s is (g.met.C.Store.told_start store) ∙ c.requires.start) peaks _
          (λ other. known-at _ told s is (refused.head other)) refused.causes);
      back = (back.0, back.1, back.2.start, (λ some. back.2), back.3);
    }

pub returns-in_err-begun-in-Ok-empty_log-clause-opens : goal.returns-in_err-begun-in-Ok-empty_log-clause-opens
returns-in_err-begun-in-Ok-empty_log-clause-opens g c =
    let exit = err_from_is_err_and c.from_residual.result c.from_residual.ensures.1 in
    let store = c.args.store in
    let told = g.C.Store.told in
    let faults = g.C.Store.faults in
    let log = c.in-Ok-empty_log.log in
    let kept = c.in-Ok-empty_log.ensures.made.kept in
    let refused = c.in_err-begun-in-Ok-empty_log.ensures in
    let own = map (spelling g.U.Update.form) fresh in
    let refusal = c.in_err-begun-in-Ok-empty_log.field-0.0 in
    let given = store_given (λ db. db.log.store) refusal.given in
    record {
      opened = each-known (told store) (λ s is list same. IfOk-from_err c.from_residual.result _ c.from_residual.ensures.0);
      became = IfOk-from_err c.from_residual.result _ c.from_residual.ensures.0;
      left = rw (exit.1, exit.2) (subst (λ o. Turns o (told given) (HasAppended own)) kept.told (leaves-now (told log.store) (told given) (HasAppended own) (λ s. IsImage (appended own s)) refused.part.told));
      failed =
          let m = scheme_of g.H.Digest.Digest.SIZE (hashing_of g.H.Digest.Digest.bytes g.H.Hasher g.F.Family g.U.Update) in
          rw (exit.1, exit.2) (subst (λ o. Turns o (told given) (FailsOpening m 0)) kept.told (fails-grown m (told log.store) (told given) refused.part.told));
      unopened =
          let peaks = peaks-none g.F.Family.shape g.F.Family.births g.met.F.Family.numbered g.met.F.Family.peaked in
          rw (exit.1, exit.2) (each-known (told store) (λ s is some.
          let none = nothing-accepted g.U.Update.form g.F.Family.shape g.H.Digest.Digest.SIZE s (known-at _ (told store) s is (g.met.C.Store.told_start store) ∙ c.requires.start) peaks
          (known-at _ (told store) s is c.in-Ok-empty_log.ensures.made.bare) in
          absurd (refused-none _ none some)));
      pruned = IfOk-from_err c.from_residual.result _ c.from_residual.ensures.0;
      start = IfOk-from_err c.from_residual.result _ c.from_residual.ensures.0;
      later = IfOk-from_err c.from_residual.result _ c.from_residual.ensures.0;
      offered = each-known (told store) (λ s is. IfOk-from_err c.from_residual.result _ c.from_residual.ensures.0);
      refused = rw (exit.1, exit.2) (each-known (told store) (λ s is. plain-due refusal.error _ refused.causes));
      back =
          rw (exit.1, exit.2) (fresh-back g.C.Store (λ db. db.log.store) store refusal.given refusal.error refused.back (refused.part.start ∙ kept.start) (either refusal.error refused.causes)
          (λ damaged. absurd (undamaged refusal.error _ refused.causes damaged))
          (later-cause (faults store) (faults log.store) (faults given) c.in-Ok-empty_log.ensures.made.later refused.cause));
    }

pub returns-in_ok-begun-in-Ok-empty_log-clause-opens : goal.returns-in_ok-begun-in-Ok-empty_log-clause-opens
returns-in_ok-begun-in-Ok-empty_log-clause-opens g c =
    let store = c.args.store in
    let told = g.C.Store.told in
    let faults = g.C.Store.faults in
    let log = c.in-Ok-empty_log.log in
    let kept = c.in-Ok-empty_log.ensures.made.kept in
    let begun = c.in_ok-begun-in-Ok-empty_log.ensures in
    let own = map (spelling g.U.Update.form) fresh in
    let grown = subst (λ o. Becomes o (told c.in_ok-begun-in-Ok-empty_log.field-0.log.store) (appended own)) kept.told begun.grown.told in
    let peaks = peaks-none g.F.Family.shape g.F.Family.births g.met.F.Family.numbered g.met.F.Family.peaked in
    let second = begun.later in
    let before = c.in-Ok-empty_log.ensures.made.later in
    let first : faults store ≤ faults c.in_ok-begun-in-Ok-empty_log.field-0.log.store = omega (arith, before, second) in
    record {
      opened = each-known (told store) (λ s is list same.
          subst (λ l. IfOk c.commit.result (λ db. IsDatabase g.C.Store (layout_of g.N.Chunks.LEN g.H.Digest.Digest.bytes g.H.Hasher g.F.Family g.U.Update g.I.Unordered) db l)) (sym same)
          (c.commit.ensures.stands fresh (known-at _ (told log.store) s (kept.told ∙ is) begun.stands)));
      became =
          ok-then c.commit.result c.commit.ensures.committed
          (λ db lasted. turns-behind (told store) (told c.in_ok-begun-in-Ok-empty_log.field-0.log.store) (told db.log.store) (appended own) (λ s t. t ≡ settled s) grown lasted.store.told);
      left =
          err-then c.commit.result c.commit.ensures.refused
          (λ r up. given-stable g.C.Store (λ db. db.log.store) (told store) c.in_ok-begun-in-Ok-empty_log.field-0.log.store r (appended own) (HasAppended own) grown
          (λ s t is reads. reads-grown own s t (known-at _ (told store) s is (g.met.C.Store.told_end store) ∙ c.requires.empty) reads) up);
      failed =
          let m = scheme_of g.H.Digest.Digest.SIZE (hashing_of g.H.Digest.Digest.bytes g.H.Hasher g.F.Family g.U.Update) in
          err-then c.commit.result c.commit.ensures.refused
          (λ r up. turns-weaker (told store) (told (store_given (λ db. db.log.store) r.given)) (λ s. FailsSettling (appended own s)) (FailsOpening m 0) (λ s t is failed. inr failed)
          (given-settling g.C.Store (λ db. db.log.store) (told store) c.in_ok-begun-in-Ok-empty_log.field-0.log.store r (appended own) grown up));
      unopened =
          err-then c.commit.result c.commit.ensures.refused
          (λ r up. each-known (told store) (λ s is some.
          let none = nothing-accepted g.U.Update.form g.F.Family.shape g.H.Digest.Digest.SIZE s (known-at _ (told store) s is (g.met.C.Store.told_start store) ∙ c.requires.start) peaks
          (known-at _ (told store) s is c.in-Ok-empty_log.ensures.made.bare) in
          absurd (refused-none _ none some)));
      pruned = ok-then c.commit.result c.commit.ensures.committed (λ db lasted. ap (λ d. d.activity.pruned) lasted.rest ∙ begun.pruned);
      start = ok-then c.commit.result c.commit.ensures.committed (λ db lasted. lasted.store.start ∙ begun.grown.start ∙ kept.start);
      later =
          ok-then c.commit.result c.commit.ensures.committed (λ db lasted. let third = lasted.later in omega (arith, first, third));
      offered =
          each-known (told store) (λ s is.
          on-ok c.commit.result (nothing-accepted g.U.Update.form g.F.Family.shape g.H.Digest.Digest.SIZE s (known-at _ (told store) s is (g.met.C.Store.told_start store) ∙ c.requires.start) peaks
          (known-at _ (told store) s is c.in-Ok-empty_log.ensures.made.bare)));
      refused = each-known (told store) (λ s is. err-then c.commit.result c.commit.ensures.refused (λ r up. plain-due r.error _ up.never));
      back =
          err-then c.commit.result c.commit.ensures.refused (λ r up. (
            up.store,
            up.given,
            up.left.start ∙ begun.grown.start ∙ kept.start,
            (λ some. plain-refusal r.error up.never some),
            later-cause (faults store) (faults c.in_ok-begun-in-Ok-empty_log.field-0.log.store) (faults up.store) first up.cause,
          ));
    }

pub returns-in-Err-empty_log-clause-causes : goal.returns-in-Err-empty_log-clause-causes
returns-in-Err-empty_log-clause-causes g c = fresh-unfinished g.U.Update.form c.in-Err-empty_log.refusal.error c.in-Err-empty_log.ensures.refused.causes

pub returns-in_err-begun-in-Ok-empty_log-clause-causes : goal.returns-in_err-begun-in-Ok-empty_log-clause-causes
returns-in_err-begun-in-Ok-empty_log-clause-causes g c =
    let exit = err_from_is_err_and c.from_residual.result c.from_residual.ensures.1 in
    rw (exit.1, exit.2) (plain-unfinished g.U.Update.form None c.in_err-begun-in-Ok-empty_log.field-0.0.error c.in_err-begun-in-Ok-empty_log.ensures.causes)

pub returns-in_ok-begun-in-Ok-empty_log-clause-causes : goal.returns-in_ok-begun-in-Ok-empty_log-clause-causes
returns-in_ok-begun-in-Ok-empty_log-clause-causes g c = err-then c.commit.result c.commit.ensures.refused (λ r up. plain-unfinished g.U.Update.form None r.error up.never)
