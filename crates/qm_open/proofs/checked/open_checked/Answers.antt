use Rattle.std.proofs.Common.{◌≡◌, ◌∙◌, ap, arith, true, false, refl, sym, subst}
use Rattle.std.specs.Prelude.{is_none}
use Rattle.std.specs.List.{list_any}
use Rattle.std.proofs.lemmas.Result.{err_from_is_err_and}
use Rattle.qm_model.specs.Causes.{IsCause}
use Rattle.qm_base.specs.declared.error.Error.TheVariants as errors
use Rattle.qm_base.specs.declared.error.JournalError.TheVariants as journal
use Rattle.qm_store.specs.Log.{IsKept}
use Rattle.qm_store.proofs.Stores.{kept-then}
use Rattle.qm_build.specs.Reads.{items_within}
use Rattle.qm_open.specs.Selecting.{selected_view}
use Rattle.qm_open.specs.Broken.{links_broken}
use Rattle.qm_open.proofs.Checking.{opened-due, links-due, links-caused, content-accepted, opened-read, each-known, known-at}
use Rattle.qm_open.proofs.Unopened.{links-unfinished, opened-unfinished}
use Rattle.qm_open.proofs.checked.open_checked.Goals as goal

pub returns-in_err-opened : goal.returns-in_err-opened
returns-in_err-opened g c =
    let exit = err_from_is_err_and c.from_residual.result c.from_residual.ensures.1 in
    let store = c.args.store in
    let told = g.C.Store.told store in
    let failed = c.in_err-opened.ensures.refused in
    rw (exit.1, exit.2) (record {
      stands = each-known told (λ s is list has low. tt);
      made = tt;
      judged = record {
        accepted = each-known told (λ s is. tt);
        refused = each-known told (λ s is.
            opened-due g.U.Update.form g.F.Family.shape g.H.Digest.Digest.SIZE s (g.C.Store.start store) (known-at _ told s is (g.met.C.Store.told_start store)) (selected_view c.args.selected) c.in_err-opened.field-0.0.error
            (λ other. known-at _ told s is (failed.other_head other)) (λ lost. known-at _ told s is (failed.undecoded lost)) failed.never);
        back = failed.back;
      };
      causes = opened-unfinished g.U.Update.form (selected_view c.args.selected) c.in_err-opened.field-0.0.error failed.never;
    })

pub returns-in-Ok : goal.returns-in-Ok
returns-in-Ok g c =
    let store = c.args.store in
    let told = g.C.Store.told store in
    let opened = c.in_ok-opened.ensures in
    let made = opened.made in
    let log = c.in_ok-opened.opened.log in
    let read = c.check_links.ensures.read in
    record {
      stands = each-known told (λ s is list has low.
          opened-read g.C.Store g.F.Family.shape g.H.Digest.Digest.bytes g.H.Hasher.hash g.U.Update.form g.I.Unordered.index_key g.N.Chunks.LEN log c.check_links.new.log _ _ _ _ _ list read (known-at _ told s is opened.stands list has low));
      made = record {
        ends = ap (λ t. t.leaves) read.tree ∙ made.ends;
        kept = kept-then g.C.Store store log.store c.check_links.new.log.store made.kept read.kept;
        later = omega (arith, made.later, read.later);
        pruned = made.pruned;
        bits = made.bits;
      };
      judged = record {
        accepted =
            let form = g.U.Update.form in
            let at = c.args.selected in
            each-known told (λ s is.
            let fine = known-at _ told s is opened.read in
            content-accepted form g.F.Family.shape g.H.Digest.Digest.SIZE s (g.C.Store.start store) (known-at _ told s is (g.met.C.Store.told_start store)) (selected_view at) fine.0 fine.1
            (subst (λ n. links_broken form s at.floor n ≡ false) made.ends (known-at _ (g.C.Store.told log.store) s (made.kept.told ∙ is) c.in-Ok.ensures.ring)));
        refused = each-known told (λ s is. tt);
        back = tt;
      };
      causes = tt;
    }

pub returns-in-Err : goal.returns-in-Err
returns-in-Err g c =
    let members = g.C.Store in
    let store = c.args.store in
    let told = members.told store in
    let form = g.U.Update.form in
    let at = c.args.selected in
    let opened = c.in_ok-opened.ensures in
    let made = opened.made in
    let log = c.in_ok-opened.opened.log in
    let new = c.check_links.new.log in
    record {
      stands = each-known told (λ s is list has low. tt);
      made = tt;
      judged = record {
        accepted = each-known told (λ s is. tt);
        refused =
            each-known told (λ s is.
            let fine = known-at _ told s is opened.read in
            links-due form g.F.Family.shape g.H.Digest.Digest.SIZE s (members.start store) (known-at _ told s is (g.met.C.Store.told_start store)) (selected_view at) members log new c.in-Err.error fine.0 fine.1
            (λ links. subst (λ n. links_broken form s at.floor n ≡ true) made.ends (known-at _ (members.told log.store) s (made.kept.told ∙ is) (c.in-Err.ensures.broken links)))
            (λ lost. subst (λ n. list_any is_none (items_within form s at.floor n) ≡ true) made.ends (known-at _ (members.told log.store) s (made.kept.told ∙ is) (c.in-Err.ensures.undecoded lost)))
            c.in-Err.ensures.error);
        back =
            let read = c.check_links.ensures.read in (
              c.close.result,
              refl,
              subst (IsKept members store) (sym c.close.ensures) (kept-then members store log.store new.store made.kept read.kept),
              subst (λ s. IsCause (members.faults store) (members.faults s) (c.in-Err.error ≡ errors.Journal journal.Store)) (sym c.close.ensures) (links-caused members store log new c.in-Err.error made.later read.later c.in-Err.ensures.error),
            );
      };
      causes = links-unfinished members log new form (selected_view at) c.in-Err.error c.in-Err.ensures.error;
    }
