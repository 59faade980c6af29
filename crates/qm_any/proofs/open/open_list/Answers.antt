use Rattle.std.proofs.Common.{Some, ◌≡◌, ◌∙◌, ◌≤◌, min, ap, sym, subst, arith}
use Rattle.std.proofs.lemmas.Result.{IfOk-from_err, err_from_is_err_and}
use Rattle.qm_model.proofs.Results.{ok-then, err-then}
use Rattle.qm_model.specs.StoreModel.{end_of, rewound, settled, RewindLeaves, ReadsAs, Turns, Becomes, Leaves}
use Rattle.qm_model.proofs.Stores.{leaves-now}
use Rattle.qm_model.specs.Taken.{taken, LeavesOpening}
use Rattle.qm_store.specs.Given.{store_given}
use Rattle.qm_store.proofs.Exits.{later-cause}
use Rattle.qm_open.proofs.Checking.{each-known, known-at, on-ok}
use Rattle.qm_any.specs.Layouts.{hashing_of}
use Rattle.qm_any.specs.Offered.{scheme_of}
use Rattle.qm_any.proofs.Lasting.{turns-behind}
use Rattle.qm_any.proofs.Openings.{plain-due, plain-refusal}
use Rattle.qm_any.proofs.Restoring.{refused-none, told-floor}
use Rattle.qm_offer.specs.Crashing.{FailsOpening, FailsSettling}
use Rattle.qm_any.proofs.Taking.{fails-cut, fails-settled, fails-whole, given-settling, leaves-some, leaves-whole, list-some, taken-some, turns-weaker, reads-rewound, given-kept, given-stable, given-unchanged}
use Rattle.qm_open.specs.Selecting.{selected_view}
use Rattle.qm_open.proofs.Unopened.{plain-unfinished}
use Rattle.qm_any.proofs.open.open_list.Goals as goal

pub returns-clause-opens : goal.returns-clause-opens
returns-clause-opens g c =
    record {
      opened =
          let store = c.args.store in
          let told = g.C.Store.told store in
          let form = g.U.Update.form in
          let m = scheme_of g.H.Digest.Digest.SIZE (hashing_of g.H.Digest.Digest.bytes g.H.Hasher g.F.Family g.U.Update) in
          let size = c.args.selected.size in
          let above = c.requires.start in
          let below = c.requires.floor in
          each-known told (λ s is list taken.
          let some = list-some m size s list (omega (arith, below)) taken in
          let has = some.0 in
          let start = known-at _ told s is (g.met.C.Store.told_start store) in
          let low = told-floor form s size c.args.selected.floor list has.size_is has.of has.items (omega (arith, start, above, below)) (omega (arith, below)) (known-at _ told s is c.requires.told) in
          let opened = known-at _ told s is c.in_ok-opened.ensures.stands list has low in
          c.commit.ensures.stands list (known-at _ (g.C.Store.told c.in_ok-opened.opened.log.store) s (c.in_ok-opened.ensures.made.kept.told ∙ is) (c.in_ok-settled.ensures.stands list opened has.good some.1 low)));
      became =
          let told = g.C.Store.told in
          let size = c.args.selected.size in
          let m = scheme_of g.H.Digest.Digest.SIZE (hashing_of g.H.Digest.Digest.bytes g.H.Hasher g.F.Family g.U.Update) in
          let below = c.requires.floor in
          ok-then c.commit.result c.commit.ensures.committed
          (λ db lasted. turns-weaker (told c.args.store) (told db.log.store) (λ s t. t ≡ settled (rewound size s)) (λ s t. t ≡ taken m size s) (λ s t is same. same ∙ sym (taken-some m size s (omega (arith, below))))
          (subst (λ o. Becomes o (told db.log.store) (λ s. settled (rewound size s))) c.in_ok-opened.ensures.made.kept.told
          (turns-behind (told c.in_ok-opened.opened.log.store) (told c.in_ok-settled.field-0.log.store) (told db.log.store) (rewound size) (λ s t. t ≡ settled s) c.in_ok-settled.ensures.became lasted.store.told)));
      left =
          let told = g.C.Store.told in
          let size = c.args.selected.size in
          let m = scheme_of g.H.Digest.Digest.SIZE (hashing_of g.H.Digest.Digest.bytes g.H.Hasher g.F.Family g.U.Update) in
          let below = c.requires.floor in
          let became = subst (λ o. Becomes o (told c.in_ok-settled.field-0.log.store) (rewound size)) c.in_ok-opened.ensures.made.kept.told c.in_ok-settled.ensures.became in
          err-then c.commit.result c.commit.ensures.refused
          (λ r up. given-stable g.C.Store (λ db. db.log.store) (told c.args.store) c.in_ok-settled.field-0.log.store r (rewound size) (λ s t. LeavesOpening m size s t) became
          (λ s t is reads. leaves-some m size s t (omega (arith, below)) (reads-rewound size s t reads)) up);
      failed =
          let told = g.C.Store.told in
          let size = c.args.selected.size in
          let m = scheme_of g.H.Digest.Digest.SIZE (hashing_of g.H.Digest.Digest.bytes g.H.Hasher g.F.Family g.U.Update) in
          let below = c.requires.floor in
          let became = subst (λ o. Becomes o (told c.in_ok-settled.field-0.log.store) (rewound size)) c.in_ok-opened.ensures.made.kept.told c.in_ok-settled.ensures.became in
          err-then c.commit.result c.commit.ensures.refused
          (λ r up. turns-weaker (told c.args.store) (told (store_given (λ db. db.log.store) r.given)) (λ s. FailsSettling (rewound size s)) (λ s. FailsOpening m size s) (λ s t is failed. fails-settled m size s t (omega (arith, below)) failed)
          (given-settling g.C.Store (λ db. db.log.store) (told c.args.store) c.in_ok-settled.field-0.log.store r (rewound size) became up));
      unopened =
          let told = g.C.Store.told c.args.store in
          err-then c.commit.result c.commit.ensures.refused
          (λ r up. each-known told (λ s is some. absurd (refused-none _ (known-at _ told s is c.in_ok-opened.ensures.judged.accepted) some)));
      pruned = ok-then c.commit.result c.commit.ensures.committed (λ db lasted. ap (λ d. d.activity.pruned) lasted.rest ∙ ap (λ a. a.pruned) c.in_ok-settled.ensures.activity ∙ c.in_ok-opened.ensures.made.pruned);
      start = ok-then c.commit.result c.commit.ensures.committed (λ db lasted. lasted.store.start ∙ c.in_ok-settled.ensures.start ∙ c.in_ok-opened.ensures.made.kept.start);
      later =
          let first = c.in_ok-opened.ensures.made.later in
          let second = c.in_ok-settled.ensures.later in
          ok-then c.commit.result c.commit.ensures.committed (λ db lasted. let third = lasted.later in omega (arith, first, second, third));
      offered =
          let told = g.C.Store.told c.args.store in
          each-known told (λ s is. on-ok c.commit.result (known-at _ told s is c.in_ok-opened.ensures.judged.accepted));
      refused =
          each-known (g.C.Store.told c.args.store) (λ s is. err-then c.commit.result c.commit.ensures.refused (λ r up. plain-due r.error _ up.never));
      back =
          let faults = g.C.Store.faults in
          let opened = c.in_ok-opened.opened.log.store in
          let settled = c.in_ok-settled.field-0.log.store in
          err-then c.commit.result c.commit.ensures.refused (λ r up. (
            up.store,
            up.given,
            up.left.start ∙ c.in_ok-settled.ensures.start ∙ c.in_ok-opened.ensures.made.kept.start,
            (λ some. plain-refusal r.error up.never some),
            later-cause (faults c.args.store) (faults opened) (faults up.store) c.in_ok-opened.ensures.made.later (later-cause (faults opened) (faults settled) (faults up.store) c.in_ok-settled.ensures.later up.cause),
          ));
    }

pub returns-in_err-opened-clause-opens : goal.returns-in_err-opened-clause-opens
returns-in_err-opened-clause-opens g c =
    let exit = err_from_is_err_and c.from_residual.result c.from_residual.ensures.1 in
    record {
      opened = each-known (g.C.Store.told c.args.store) (λ s is list taken. IfOk-from_err c.from_residual.result _ c.from_residual.ensures.0);
      became = IfOk-from_err c.from_residual.result _ c.from_residual.ensures.0;
      left =
          let store = c.args.store in
          let told = g.C.Store.told store in
          let m = scheme_of g.H.Digest.Digest.SIZE (hashing_of g.H.Digest.Digest.bytes g.H.Hasher g.F.Family g.U.Update) in
          let back = c.in_err-opened.ensures.judged.back in
          rw (exit.1, exit.2) (given-kept g.C.Store (λ db. db.log.store) c.in_err-opened.field-0.0.given store back.0 (λ s t. LeavesOpening m c.args.selected.size s t) back.1 back.2.told
          (λ s is. leaves-whole m c.args.selected.size s (known-at (λ s. s.stable ≤ end_of s) told s is c.requires.stable)));
      failed =
          let store = c.args.store in
          let told = g.C.Store.told store in
          let m = scheme_of g.H.Digest.Digest.SIZE (hashing_of g.H.Digest.Digest.bytes g.H.Hasher g.F.Family g.U.Update) in
          let back = c.in_err-opened.ensures.judged.back in
          rw (exit.1, exit.2) (given-kept g.C.Store (λ db. db.log.store) c.in_err-opened.field-0.0.given store back.0 (λ s. FailsOpening m c.args.selected.size s) back.1 back.2.told
          (λ s is. fails-whole m c.args.selected.size s (known-at (λ s. s.stable ≤ end_of s) told s is c.requires.stable)));
      unopened =
          let store = c.args.store in
          let back = c.in_err-opened.ensures.judged.back in
          rw (exit.1, exit.2) (each-known (g.C.Store.told store) (λ s is some.
          given-unchanged g.C.Store (λ db. db.log.store) c.in_err-opened.field-0.0.given store back.0 back.1 back.2));
      pruned = IfOk-from_err c.from_residual.result _ c.from_residual.ensures.0;
      start = IfOk-from_err c.from_residual.result _ c.from_residual.ensures.0;
      later = IfOk-from_err c.from_residual.result _ c.from_residual.ensures.0;
      offered = each-known (g.C.Store.told c.args.store) (λ s is. IfOk-from_err c.from_residual.result _ c.from_residual.ensures.0);
      refused =
          rw (exit.1, exit.2) c.in_err-opened.ensures.judged.refused;
      back =
          let back = c.in_err-opened.ensures.judged.back in
          rw (exit.1, exit.2) (back.0, back.1, back.2.start, (λ some. back.2), back.3);
    }

pub returns-in_err-settled-clause-opens : goal.returns-in_err-settled-clause-opens
returns-in_err-settled-clause-opens g c =
    let exit = err_from_is_err_and c.from_residual-in_err-settled.result c.from_residual-in_err-settled.ensures.1 in
    record {
      opened = each-known (g.C.Store.told c.args.store) (λ s is list taken. IfOk-from_err c.from_residual-in_err-settled.result _ c.from_residual-in_err-settled.ensures.0);
      became = IfOk-from_err c.from_residual-in_err-settled.result _ c.from_residual-in_err-settled.ensures.0;
      left =
          let size = c.args.selected.size in
          let m = scheme_of g.H.Digest.Digest.SIZE (hashing_of g.H.Digest.Digest.bytes g.H.Hasher g.F.Family g.U.Update) in
          let below = c.requires.floor in
          let given = g.C.Store.told (store_given (λ db. db.log.store) c.in_err-settled.field-0.0.given) in
          rw (exit.1, exit.2) (turns-weaker (g.C.Store.told c.args.store) given (λ s. ReadsAs (min s.stable size) (RewindLeaves size s)) (λ s t. LeavesOpening m size s t) (λ s t is. leaves-some m size s t (omega (arith, below)))
          (subst (λ o. Turns o given (λ s. ReadsAs (min s.stable size) (RewindLeaves size s))) c.in_ok-opened.ensures.made.kept.told (leaves-now (g.C.Store.told c.in_ok-opened.opened.log.store) given _ _ c.in_err-settled.ensures.left)));
      failed =
          let size = c.args.selected.size in
          let m = scheme_of g.H.Digest.Digest.SIZE (hashing_of g.H.Digest.Digest.bytes g.H.Hasher g.F.Family g.U.Update) in
          let below = c.requires.floor in
          let given = g.C.Store.told (store_given (λ db. db.log.store) c.in_err-settled.field-0.0.given) in
          rw (exit.1, exit.2) (turns-weaker (g.C.Store.told c.args.store) given _ (λ s. FailsOpening m size s) (λ s t is failed. fails-cut m size s t (omega (arith, below)) failed)
          (subst (λ o. Leaves o given (λ s. ReadsAs (min s.stable size) (RewindLeaves size s))) c.in_ok-opened.ensures.made.kept.told c.in_err-settled.ensures.left));
      unopened =
          let told = g.C.Store.told c.args.store in
          rw (exit.1, exit.2) (each-known told (λ s is some. absurd (refused-none _ (known-at _ told s is c.in_ok-opened.ensures.judged.accepted) some)));
      pruned = IfOk-from_err c.from_residual-in_err-settled.result _ c.from_residual-in_err-settled.ensures.0;
      start = IfOk-from_err c.from_residual-in_err-settled.result _ c.from_residual-in_err-settled.ensures.0;
      later = IfOk-from_err c.from_residual-in_err-settled.result _ c.from_residual-in_err-settled.ensures.0;
      offered = each-known (g.C.Store.told c.args.store) (λ s is. IfOk-from_err c.from_residual-in_err-settled.result _ c.from_residual-in_err-settled.ensures.0);
      refused =
          rw (exit.1, exit.2) (each-known (g.C.Store.told c.args.store) (λ s is. plain-due c.in_err-settled.field-0.0.error _ c.in_err-settled.ensures.never));
      back =
          let faults = g.C.Store.faults in
          let back = c.in_err-settled.ensures.back in
          rw (exit.1, exit.2) (
            back.0,
            back.1,
            back.2 ∙ c.in_ok-opened.ensures.made.kept.start,
            (λ some. plain-refusal c.in_err-settled.field-0.0.error c.in_err-settled.ensures.never some),
            later-cause (faults c.args.store) (faults c.in_ok-opened.opened.log.store) (faults back.0) c.in_ok-opened.ensures.made.later back.3,
          );
    }

pub returns-clause-causes : goal.returns-clause-causes
returns-clause-causes g c = err-then c.commit.result c.commit.ensures.refused (λ r up. plain-unfinished g.U.Update.form (Some (selected_view c.args.selected)) r.error up.never)

pub returns-in_err-opened-clause-causes : goal.returns-in_err-opened-clause-causes
returns-in_err-opened-clause-causes g c =
    let exit = err_from_is_err_and c.from_residual.result c.from_residual.ensures.1 in
    rw (exit.1, exit.2) c.in_err-opened.ensures.causes

pub returns-in_err-settled-clause-causes : goal.returns-in_err-settled-clause-causes
returns-in_err-settled-clause-causes g c =
    let exit = err_from_is_err_and c.from_residual-in_err-settled.result c.from_residual-in_err-settled.ensures.1 in
    rw (exit.1, exit.2) (plain-unfinished g.U.Update.form (Some (selected_view c.args.selected)) c.in_err-settled.field-0.0.error c.in_err-settled.ensures.never)
