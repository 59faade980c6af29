use Rattle.std.proofs.Common.{◌≡◌, ◌≤◌, ◌∙◌, [], map, ap, ap₂, refl, sym, subst, None, inl, arith}
use Rattle.qm_model.specs.Causes.{IsCause}
use Rattle.qm_base.specs.declared.error.Error.TheVariants as errors
use Rattle.qm_base.specs.declared.error.JournalError.TheVariants as journal
use Rattle.qm_open.proofs.Checking.{each-known}
use Rattle.qm_any.proofs.Unapplied.{memory-cause}
use Rattle.qm_model.specs.StoreModel.{Becomes, appended}
use Rattle.qm_model.specs.Operations.{fresh}
use Rattle.qm_model.specs.Trees.{inactive_peaks}
use Rattle.qm_model.specs.Forms.{spelling}
use Rattle.qm_store.specs.Log.{IsLog, store_given}
use Rattle.qm_store.specs.Given.{Appended, AppendedPart}
use Rattle.qm_store.proofs.Told.{grown-appended, refused-appended-part, unchanged-appended-part}
use Rattle.qm_any.specs.Layouts.{layout_of}
use Rattle.qm_any.proofs.Telling.{root-spelled, grown-told, fresh-stands, same-three}
use Rattle.qm_any.proofs.fresh.begun.Goals as goal

pub returns-in-Ok-append_batch : goal.returns-in-Ok-append_batch
returns-in-Ok-append_batch g c =
    record {
      stands =
          let shape = g.F.Family.shape in
          let bytes = g.H.Digest.Digest.bytes in
          let hash = g.H.Hasher.hash in
          let log = c.in-Ok-append_batch.log in
          let inactive = c.inactive_peaks-inactive.ensures ∙ ap₂ (inactive_peaks shape) c.new.ensures c.new-2.ensures in
          let rooted = c.in-Ok.ensures.value [] c.requires.log ∙ root-spelled hash shape g.U.Update.form (map (λ v. v.items) c.args.items.now) fresh c.inactive_peaks-inactive.result c.requires.items inactive in
          let same = c.root_with.ensures.same in
          let empty = subst (λ l. IsLog g.C.Store shape bytes hash l []) (sym same) c.requires.log in
          let grows = subst (λ l. Becomes (g.C.Store.told l.store) (g.C.Store.told log.store) (appended (map (λ v. v.items) c.args.items.now))) same c.in-Ok-append_batch.ensures.grown.told in
          grown-told (g.C.Store.told c.args.log.store) (g.C.Store.told log.store) _ _ grows (λ told.
          fresh-stands g.C.Store (layout_of g.N.Chunks.LEN g.H.Digest.Digest.bytes g.H.Hasher g.F.Family g.U.Update g.I.Unordered) c.of_parts.result log (record { size = 1; root = bytes c.in-Ok.root })
          (c.of_parts.ensures ∙ same-three (λ entries activity floor. record { entries = entries; activity = activity; log = log; commitment = record { size = 1; root = bytes c.in-Ok.root }; floor = floor; live = 0; metadata = None }) c.new-index.ensures c.in-Ok-first_bit.ensures c.new-in-Ok-append_batch.ensures)
          (ap (λ r. record { size = 1; root = r }) rooted) (c.in-Ok-append_batch.ensures.start ∙ ap (λ l. l.tree.start) same ∙ c.requires.log.start ∙ c.requires.start) told
          (subst (IsLog g.C.Store shape bytes hash log) c.requires.items (c.in-Ok-append_batch.ensures.stands [] empty)));
      pruned = ap (λ d. d.activity.pruned) c.of_parts.ensures ∙ ap (λ a. a.pruned) c.in-Ok-first_bit.ensures;
      grown =
          let members = g.C.Store in
          let log = c.in-Ok-append_batch.log in
          let items = map (λ v. v.items) c.args.items.now in
          subst (λ d. Appended members c.args.log.store d.log.store (map (spelling g.U.Update.form) fresh)) (sym c.of_parts.ensures)
          (subst (Appended members c.args.log.store log.store) c.requires.items
          (subst (λ l. Appended members l.store log.store items) c.root_with.ensures.same (grown-appended members c.root_with.new.self.store log.store items c.in-Ok-append_batch.ensures.grown)));
      later =
          let faults = g.C.Store.faults in
          let log = c.in-Ok-append_batch.log in
          subst (λ d. faults c.args.log.store ≤ faults d.log.store) (sym c.of_parts.ensures) (subst (λ l. faults l.store ≤ faults log.store) c.root_with.ensures.same c.in-Ok-append_batch.ensures.later);
      part = tt;
      back = tt;
      causes = tt;
      cause = tt;
    }

pub returns-in-Err : goal.returns-in-Err
returns-in-Err g c =
    record {
      stands = each-known (g.C.Store.told c.args.log.store) (λ s is. tt);
      pruned = tt;
      grown = tt;
      later = tt;
      part =
          let given = c.in-Err.refusal.given in
          let part = refused-appended-part g.C.Store c.root_with.new.self (map (λ v. v.items) c.args.items.now) given c.in-Err.refusal.error c.in-Err.ensures.refused in
          let here = subst (λ l. AppendedPart g.C.Store l.store (store_given given) (map (λ v. v.items) c.args.items.now)) c.root_with.ensures.same part in
          subst (λ s. AppendedPart g.C.Store c.args.log.store s (map (spelling g.U.Update.form) fresh)) (sym c.store_of.ensures) (subst (AppendedPart g.C.Store c.args.log.store (store_given given)) c.requires.items here);
      back = λ x given. absurd (cc given);
      causes = c.in-Err.ensures.refused.never;
      cause =
          let faults = g.C.Store.faults in
          let given = c.in-Err.refusal.given in
          let failed = c.in-Err.refusal.error ≡ errors.Journal journal.Store in
          subst (λ s. IsCause (faults c.args.log.store) (faults s) failed) (sym c.store_of.ensures)
          (subst (λ l. IsCause (faults l.store) (faults (store_given given)) failed) c.root_with.ensures.same c.in-Err.ensures.refused.cause);
    }

pub returns-in_default-first_bit : goal.returns-in_default-first_bit
returns-in_default-first_bit g c =
    record {
      stands = each-known (g.C.Store.told c.args.log.store) (λ s is. tt);
      pruned = tt;
      grown = tt;
      later = tt;
      part =
          let own = map (spelling g.U.Update.form) fresh in
          let closed = c.close-in_default-first_bit.ensures ∙ ap (λ l. l.store) c.root_with.ensures.same in
          subst (λ s. AppendedPart g.C.Store c.args.log.store s own) (sym closed)
          (unchanged-appended-part g.C.Store c.args.log.store c.args.log.store own (record { start = refl; told = refl }));
      back = λ x given. absurd (cc given);
      causes = inl refl;
      cause =
          let faults = g.C.Store.faults in
          let closed = c.close-in_default-first_bit.ensures ∙ ap (λ l. l.store) c.root_with.ensures.same in
          memory-cause (faults c.args.log.store) (faults c.close-in_default-first_bit.result) errors.Memory (subst (λ s. faults c.args.log.store ≤ faults s) (sym closed) (omega arith)) refl;
    }

pub returns-in_default : goal.returns-in_default
returns-in_default g c =
    record {
      stands = each-known (g.C.Store.told c.args.log.store) (λ s is. tt);
      pruned = tt;
      grown = tt;
      later = tt;
      part =
          let own = map (spelling g.U.Update.form) fresh in
          let closed = c.close.ensures ∙ ap (λ l. l.store) c.root_with.ensures.same in
          subst (λ s. AppendedPart g.C.Store c.args.log.store s own) (sym closed)
          (unchanged-appended-part g.C.Store c.args.log.store c.args.log.store own (record { start = refl; told = refl }));
      back = λ x given. absurd (cc given);
      causes = inl refl;
      cause =
          let faults = g.C.Store.faults in
          let closed = c.close.ensures ∙ ap (λ l. l.store) c.root_with.ensures.same in
          memory-cause (faults c.args.log.store) (faults c.close.result) errors.Memory (subst (λ s. faults c.args.log.store ≤ faults s) (sym closed) (omega arith)) refl;
    }
