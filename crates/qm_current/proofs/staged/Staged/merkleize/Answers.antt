use Rattle.std.proofs.Common.{◌≡◌, ◌⊎◌, ◌∙◌, ◌≤◌, suc, true, List, [], length, ap, ap₂, sym, subst, refl, inl, Ok}
use Rattle.std.specs.Prelude.{option_map}
use Rattle.qm_model.specs.Batches.{Chain, IsOnChain}
use Rattle.qm_model.specs.Operations.{Operation}
use Rattle.qm_model.proofs.Results.{err-then, ok-four, ok-then}
use Rattle.qm_model.specs.Slots.{slotted}
use Rattle.qm_base.specs.Reads.{IsOfKeptItem}
use Rattle.qm_base.specs.Slots.{slot_views, write_views}
use Rattle.qm_roots.specs.Canonical.{IsCanonical}
use Rattle.qm_roots.specs.Kept.{IsKept}
use Rattle.qm_any.specs.Applying.{can_apply}
use Rattle.qm_any.specs.Databases as anys
use Rattle.qm_any.specs.Layouts.{hashing_of, layout_of}
use Rattle.qm_store.specs.Reads.{IsReadError}
use Rattle.qm_any.specs.Reading.{AtList}
use Rattle.qm_any.specs.Making.{IsMaking, IsUnmade, list_made, making_of}
use Rattle.qm_any.specs.Tips.{IsRefused, IsShort}
use Rattle.qm_any.proofs.Reading.{left-database}
use Rattle.qm_any.proofs.Telling.{three}
use Rattle.qm_any.proofs.Unmade.{unsealed}
use Rattle.qm_current.specs.Databases.{Database, Made, Staged, begun_of}
use Rattle.qm_current.specs.Making.{can_make}
use Rattle.qm_current.proofs.Applying.{on-ok}
use Rattle.qm_current.proofs.Making.{can-not, can-on, child-on_state, left-joined, two}
use Rattle.qm_current.proofs.staged.Staged.merkleize.Goals as goal

pub finished-requires-clause-joined : goal.finished-requires-clause-joined
finished-requires-clause-joined g c =
    let hashing = hashing_of g.D.Digest.bytes g.H.Hasher g.F.Family g.U.Update in
    left-joined g.C.Store hashing g.N.Chunks.LEN (record { any = c.db.inside.any; canonical = c.db.inside.canonical; instance = 0; name = [] }) c.merkleize.new.db c.in-Ok.ensures.left
    (record { size_is = c.db.invariant.size_is; bits = c.db.invariant.bits; forgotten = c.db.invariant.forgotten; over = c.db.invariant.over })

pub finished-requires-clause-keep : goal.finished-requires-clause-keep
finished-requires-clause-keep g c = subst (λ (b : Made g.row.D.Denot). c.self.inside.keep ≤ suc (length b.any.bounds.ancestors)) (sym c.deref-in-Ok.ensures) c.self.invariant.2

pub finished-requires-clause-child : goal.finished-requires-clause-child
finished-requires-clause-child g c =
    two (λ (p : anys.Made g.row.D.Denot) k. anys.IsChild p k c.in-Ok.any.value) (c.self.invariant.0 ∙ sym (ap (λ (b : Made g.row.D.Denot). b.any) c.deref-in-Ok.ensures)) c.self.invariant.1 c.in-Ok.ensures.child

pub finished-requires-clause-on : goal.finished-requires-clause-on
finished-requires-clause-on g c =
    let commitment = ap (λ (d : anys.Database g.row.C.Denot g.row.D.Denot). d.commitment) c.in-Ok.ensures.left.rest in
    let begun = c.self.inside.any.batch in
    subst (λ k. anys.is_on k begun ≡ true → can_apply c.merkleize.new.db c.in-Ok.any.value ≡ true) commitment
    (child-on_state begun.parent begun.keep c.in-Ok.any.value c.merkleize.new.db.commitment c.in-Ok.ensures.child) c.in-Ok.ensures.fits

pub returns-then-deref-db-clause-unmade : goal.returns-then-deref-db-clause-unmade
returns-then-deref-db-clause-unmade g c =
    let self_instance = ap (λ (b : Staged g.row.D.Denot). b.instance) c.self.view_is in
    let db_instance = ap (λ (d : Database g.row.C.Denot g.row.D.Denot). d.instance) c.db.view_is in
    let parent_instance = ap (λ (b : Made g.row.D.Denot). b.instance) (c.behind-parent.view_is ∙ c.deref.ensures) in
    let other = can-not c.args.db.now (begun_of c.args.self) (λ same. c.if-deref-db.true (parent_instance ∙ self_instance ∙ sym same ∙ sym db_instance)) in
    record { stale = λ stale. other; order = λ memory fresh. absurd (fresh refl); causes = inl refl; cause = λ fault. absurd (cc fault) }

pub returns-in-Ok : goal.returns-in-Ok
returns-in-Ok g c =
    let members = g.C.Store in
    let bytes = g.D.Digest.bytes in
    let hash = g.H.Hasher.hash in
    let shape = g.F.Family.shape in
    let size = g.N.Chunks.LEN in
    let form = g.U.Update.form in
    let layout = layout_of size bytes g.H.Hasher g.F.Family g.U.Update g.I.Unordered in
    let hashing = hashing_of bytes g.H.Hasher g.F.Family g.U.Update in
    let meta = option_map g.U.Value.ByteString.bytes c.args.metadata in
    let writes = λ (b : anys.Staged g.row.D.Denot). slotted b.batch.writes (anys.staged_keys b) (slot_views g.U.Value.ByteString.bytes c.args.slots.now) (write_views g.U.Key.ByteString.bytes g.U.Value.ByteString.bytes c.args.others.now) in
    let r = c.finished.result in
    let made_any = c.in-Ok.any.value in
    let db_any = ap (λ (d : Database g.row.C.Denot g.row.D.Denot). d.any) c.db.view_is in
    let db_canonical = ap (λ (d : Database g.row.C.Denot g.row.D.Denot). d.canonical) c.db.view_is in
    let self_any = ap (λ (b : Staged g.row.D.Denot). b.any) c.self.view_is in
    let self_parent = ap (λ (b : Staged g.row.D.Denot). b.parent) c.self.view_is in
    let self_instance = ap (λ (b : Staged g.row.D.Denot). b.instance) c.self.view_is in
    let parent_instance = ap (λ (b : Made g.row.D.Denot). b.instance) c.deref-in-Ok.ensures ∙ self_instance in
    let same = sym (ap (λ (d : Database g.row.C.Denot g.row.D.Denot). d.instance) c.db.view_is) ∙ sym c.if-deref-db.false ∙ ap (λ (b : Made g.row.D.Denot). b.instance) (c.behind-parent.view_is ∙ c.deref.ensures) ∙ self_instance in
    let can = can-on c.args.db.now (begun_of c.args.self) same ∙ sym (ap₂ (λ (d : anys.Database g.row.C.Denot g.row.D.Denot) (b : anys.Staged g.row.D.Denot). anys.is_on d.commitment b.batch) db_any self_any) ∙ c.in-Ok.ensures.fits in
    let kept_db = c.finished.ensures.same in
    let left = two (λ (d : anys.Database g.row.C.Denot g.row.D.Denot) (n : anys.Database g.row.C.Denot g.row.D.Denot). anys.IsLeft members hashing d n) db_any (sym kept_db) c.in-Ok.ensures.left in
    record {
      fits = on-ok r can;
      makes = λ list chain above stands begun number on.
          let old = subst (λ d. anys.IsDatabase members layout d list) (sym db_any) stands.any in
          let from = subst (λ b. anys.IsStaged hashing b chain above) (sym self_any) begun.any in
          let m = three (λ (b : anys.Staged g.row.D.Denot) (d : anys.Database g.row.C.Denot g.row.D.Denot) (n : anys.Database g.row.C.Denot g.row.D.Denot).
          IsMaking members form (making_of g.P.Policy.rules c.args.policy.now (writes b) meta) chain c.merkleize.new.policy d.log n.log (Ok c.in-Ok.any) (λ x. anys.IsMadeWith hashing x.value chain))
          self_any db_any (sym kept_db) (c.in-Ok.ensures.makes list chain above old from on) in
          let tip = list_made form (making_of g.P.Policy.rules c.args.policy.now (writes c.args.self.any) meta) chain.base in
          let after : anys.IsDatabase members layout c.merkleize.new.db list = left-database members layout c.db.inside.any c.merkleize.new.db list c.in-Ok.ensures.left old in
          let own = subst (λ k. IsCanonical bytes hash shape size form k list) (sym db_canonical) stands.canonical in
          let parent = subst (λ b. anys.IsMade hashing b above chain.base) (c.self.invariant.0 ∙ sym (ap (λ (b : Made g.row.D.Denot). b.any) c.deref-in-Ok.ensures)) from.begun.parent in
          let held = subst (λ k. IsKept bytes hash shape size form k chain.base (anys.bases_of above)) (sym self_parent ∙ sym (ap (λ (b : Made g.row.D.Denot). b.kept) c.deref-in-Ok.ensures)) begun.parent in
          let by_keep = from.begun.kept ∙ ap (λ k. anys.kept_by k above chain.base) c.self.invariant.1 in
          let kept = c.finished.ensures.made list tip chain above (record { any = after; canonical = own }) parent held by_keep on m.made.0 in
          record {
            made = ok-four r c.finished.ensures.value kept c.finished.ensures.value kept (λ b value has _ _. (
              record {
                any = subst (λ x. anys.IsMade hashing x chain tip) (sym value.0) m.made.0;
                kept = has;
                numbered = value.1 ∙ parent_instance ∙ begun.numbered;
              },
              ap (λ x. x.evicted) value.0 ∙ m.made.1,
            ));
            taken = on-ok r m.taken;
            next = on-ok r m.next;
            refused = err-then r c.finished.ensures.memory (λ e memory. inl (inl memory));
          };
      short = ok-then r c.finished.ensures.value (λ b value. subst (IsShort form) (sym value.0) c.in-Ok.ensures.short);
      child = ok-then r c.finished.ensures.value (λ b value. (
        value.1 ∙ parent_instance,
        two (λ (p : anys.Staged g.row.D.Denot) (m : anys.Made g.row.D.Denot). anys.IsChild p.batch.parent p.batch.keep m) self_any (sym value.0) c.in-Ok.ensures.child,
      ));
      unmade = err-then r c.finished.ensures.memory (λ e memory. unsealed members (can_make c.args.db.now (begun_of c.args.self)) c.args.db.now.any.log c.finished.new.db.log e can memory);
      whole = λ list chain above stands begun on. err-then r c.finished.ensures.memory (λ e memory n pruned. absurd (cc (memory, pruned)));
      kept = λ list stands low. err-then r c.finished.ensures.memory (λ e memory n pruned. absurd (cc (memory, pruned)));
      left = record { any = left; rest = ap (λ (d : Database g.row.C.Denot g.row.D.Denot). record d { any = c.finished.new.db }) c.db.view_is };
    }

pub returns : goal.returns
returns g c =
    let members = g.C.Store in
    let bytes = g.D.Digest.bytes in
    let size = g.N.Chunks.LEN in
    let form = g.U.Update.form in
    let layout = layout_of size bytes g.H.Hasher g.F.Family g.U.Update g.I.Unordered in
    let hashing = hashing_of bytes g.H.Hasher g.F.Family g.U.Update in
    let meta = option_map g.U.Value.ByteString.bytes c.args.metadata in
    let writes = λ (b : anys.Staged g.row.D.Denot). slotted b.batch.writes (anys.staged_keys b) (slot_views g.U.Value.ByteString.bytes c.args.slots.now) (write_views g.U.Key.ByteString.bytes g.U.Value.ByteString.bytes c.args.others.now) in
    let e = c.in-Err.error in
    let new = c.merkleize.new.db in
    let db_any = ap (λ (d : Database g.row.C.Denot g.row.D.Denot). d.any) c.db.view_is in
    let self_any = ap (λ (b : Staged g.row.D.Denot). b.any) c.self.view_is in
    let self_instance = ap (λ (b : Staged g.row.D.Denot). b.instance) c.self.view_is in
    let same = sym (ap (λ (d : Database g.row.C.Denot g.row.D.Denot). d.instance) c.db.view_is) ∙ sym c.if-deref-db.false ∙ ap (λ (b : Made g.row.D.Denot). b.instance) (c.behind-parent.view_is ∙ c.deref.ensures) ∙ self_instance in
    let can = sym (can-on c.args.db.now (begun_of c.args.self) same) in
    record {
      fits = tt;
      makes = λ list chain above stands begun number on.
          let old = subst (λ d. anys.IsDatabase members layout d list) (sym db_any) stands.any in
          let from = subst (λ b. anys.IsStaged hashing b chain above) (sym self_any) begun.any in
          let refused = two (λ (b : anys.Staged g.row.D.Denot) (d : anys.Database g.row.C.Denot g.row.D.Denot).
          IsRefused form chain.base (list_made form (making_of g.P.Policy.rules c.args.policy.now (writes b) meta) chain.base) e ⊎ IsReadError members d.log new.log e)
          self_any db_any (c.in-Err.ensures.makes list chain above old from on).refused in
          record { made = tt; taken = tt; next = tt; refused = refused };
      short = tt;
      child = tt;
      unmade = subst (λ t. IsUnmade members t c.args.db.now.any.log new.log e) can
          (two (λ (b : anys.Staged g.row.D.Denot) (d : anys.Database g.row.C.Denot g.row.D.Denot). IsUnmade members (anys.is_on d.commitment b.batch) d.log new.log e) self_any db_any c.in-Err.ensures.unmade);
      whole = two (λ (b : anys.Staged g.row.D.Denot) (d : anys.Database g.row.C.Denot g.row.D.Denot). (list : List Operation) (chain above : Chain) → anys.IsDatabase members layout d list → anys.IsStaged hashing b chain above → IsOnChain list chain → IsOfKeptItem e)
          self_any db_any c.in-Err.ensures.whole;
      kept = two (λ (b : anys.Staged g.row.D.Denot) (d : anys.Database g.row.C.Denot g.row.D.Denot). AtList members layout d (λ list. d.log.tree.start ≤ b.batch.parent.bounds.inactivity_floor → IsOfKeptItem e))
          self_any db_any c.in-Err.ensures.kept;
      left = record {
        any = subst (λ d. anys.IsLeft members hashing d new) db_any c.in-Err.ensures.left;
        rest = ap (λ (d : Database g.row.C.Denot g.row.D.Denot). record d { any = new }) c.db.view_is;
      };
    }
