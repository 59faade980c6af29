use Rattle.std.proofs.Common.{◌≡◌, ◌∙◌, ◌≤◌, min, map, ap, ap₂, refl, sym, subst, inl, arith}
use Rattle.qm_model.specs.Causes.{IsCause}
use Rattle.qm_base.specs.declared.error.Error.TheVariants as errors
use Rattle.qm_base.specs.declared.error.JournalError.TheVariants as journal
use Rattle.qm_model.specs.Forms.{spelling}
use Rattle.qm_model.specs.StoreModel.{end_of, rewound, Becomes, RewindLeaves, ReadsAs, Leaves}
use Rattle.qm_model.proofs.Stores.{fails-unmoved}
use Rattle.qm_store.specs.Log.{store_given}
use Rattle.qm_any.specs.Layouts.{layout_of}
use Rattle.qm_any.proofs.Lasting.{still-told}
use Rattle.qm_open.proofs.Checking.{each-known, known-at}
use Rattle.qm_any.proofs.Unapplied.{memory-cause}
use Rattle.qm_any.proofs.Restoring.{shared-bytes, told-so, opened-stands, given-store}
use Rattle.qm_any.proofs.Taking.{reads-whole, turns-kept}
use Rattle.qm_any.proofs.open.settled.Goals as goal

pub returns-in-Ok-settle : goal.returns-in-Ok-settle
returns-in-Ok-settle g c =
    let members = g.C.Store in
    let old = c.args.opened.log in
    let new = c.in-Ok-settle.log in
    let made = c.of_parts.ensures in
    record {
      stands = λ list opened good ring low.
          told-so (members.told old.store) _ (λ told.
          opened-stands members (layout_of g.N.Chunks.LEN g.H.Digest.Digest.bytes g.H.Hasher g.F.Family g.U.Update g.I.Unordered) old new _ _ _ _ _ c.args.selected.size c.args.selected.floor c.of_parts.result list opened
          (c.in-Ok-settle.ensures.stands (map (spelling g.U.Update.form) list) opened.has.logged) (still-told (members.told old.store) (members.told new.store) _ c.in-Ok-settle.ensures.settled told)
          (made ∙ ap₂ (λ f m. record { entries = g.I.Unordered.entries c.args.opened.index; activity = c.args.opened.activity; log = new; commitment = record { size = c.args.selected.size; root = g.H.Digest.Digest.bytes c.args.opened.root }; floor = f; live = c.args.opened.live; metadata = m }) c.new-floor.ensures (shared-bytes (λ r. r.value) g.U.Value.ByteString.bytes c.in-Ok.metadata c.args.opened.metadata c.in-Ok.ensures))
          c.requires.size low (omega (arith, c.in-Ok-settle.ensures.start, c.requires.start)) good ring);
      became = subst (λ n. Becomes (members.told old.store) (members.told c.of_parts.result.log.store) (rewound n)) c.requires.size
          (subst (λ d. Becomes (members.told old.store) (members.told d.log.store) (rewound old.tree.leaves)) (sym made) c.in-Ok-settle.ensures.settled);
      left = tt;
      activity = ap (λ d. d.activity) made;
      start = ap (λ d. members.start d.log.store) made ∙ c.in-Ok-settle.ensures.start;
      later = subst (λ d. members.faults old.store ≤ members.faults d.log.store) (sym made) c.in-Ok-settle.ensures.later;
      back = tt;
      never = tt;
    }

pub returns-in-Err : goal.returns-in-Err
returns-in-Err g c =
    record {
      stands = λ list opened good ring low. each-known (g.C.Store.told c.args.opened.log.store) (λ s is. tt);
      became = tt;
      left =
          let members = g.C.Store in
          let old = c.args.opened.log in
          let size = c.args.selected.size in
          let left = given-store members _ old c.in-Err.refusal.given c.in-Err.refusal.error c.in-Err.ensures.refused c.in-Err.ensures.given in
          let there = subst (λ n. Leaves (members.told old.store) (members.told (store_given c.in-Err.refusal.given)) (λ s. ReadsAs (min s.stable n) (RewindLeaves n s))) c.requires.size left.told in
          subst (λ s. Leaves (members.told old.store) (members.told s) (λ s. ReadsAs (min s.stable size) (RewindLeaves size s))) (sym c.store_of.ensures) there;
      activity = tt;
      start = tt;
      later = tt;
      back =
          let members = g.C.Store in
          let old = c.args.opened.log in
          let refused = c.in-Err.ensures.refused in
          let left = given-store members _ old c.in-Err.refusal.given c.in-Err.refusal.error refused c.in-Err.ensures.given in (
            c.store_of.result,
            refl,
            ap members.start c.store_of.ensures ∙ left.start,
            subst (λ s. IsCause (members.faults old.store) (members.faults s) (c.in-Err.refusal.error ≡ errors.Journal journal.Store)) (sym c.store_of.ensures) refused.cause,
          );
      never = c.in-Err.ensures.refused.never;
    }

pub returns-in_default : goal.returns-in_default
returns-in_default g c =
    record {
      stands = λ list opened good ring low. each-known (g.C.Store.told c.args.opened.log.store) (λ s is. tt);
      became = tt;
      left =
          let told = g.C.Store.told in
          let old = c.args.opened.log.store in
          turns-kept (told old) (told c.close.result) _ (ap told c.close.ensures) (λ s is. fails-unmoved _ _ s (reads-whole c.args.selected.size s (known-at (λ s. s.stable ≤ end_of s) (told old) s is c.requires.stable)));
      activity = tt;
      start = tt;
      later = tt;
      back =
          let members = g.C.Store in
          let old = c.args.opened.log.store in
          let later = subst (λ s. members.faults old ≤ members.faults s) (sym c.close.ensures) (omega arith) in (
            c.close.result,
            refl,
            ap members.start c.close.ensures,
            memory-cause (members.faults old) (members.faults c.close.result) errors.Memory later refl,
          );
      never = inl refl;
    }
