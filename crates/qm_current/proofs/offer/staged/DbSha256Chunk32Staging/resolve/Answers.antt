use Rattle.std.proofs.Common.{◌≤◌, ◌∙◌, ap, ap₂, refl, subst, sym, suc, length, option_map}
use Rattle.std.proofs.lemmas.Result.{IfOk-from_err, err_from_is_err_and}
use Rattle.qm_model.proofs.Results.{err-then}
use Rattle.qm_model.specs.Slots.{slotted}
use Rattle.qm_base.specs.Slots.{slot_views, write_views}
use Rattle.qm_step.specs.Views.{evicted_after, stepped}
use Rattle.qm_base.specs.declared.error.Error.TheVariants.{Journal}
use Rattle.qm_base.specs.declared.error.JournalError.TheVariants.{Store}
use Rattle.qm_any.specs.Offered.{sha256_hashing, sha256_layout}
use Rattle.qm_any.proofs.Offered.{err-of, left-store, err-memory, memory-not_stale, unread-memory}
use Rattle.qm_current.specs.Databases.{Database, Staged, begun_of}
use Rattle.qm_current.specs.Making.{can_make}
use Rattle.qm_current.specs.Offered.{offered_chunk}
use Rattle.qm_current.proofs.Offering.{decides, few-kept, left-offered, makes, staged-begun}
use Rattle.qm_current.proofs.offer.staged.DbSha256Chunk32Staging.resolve.Goals as goal

pub returns-in_err-metadata : goal.returns-in_err-metadata
returns-in_err-metadata g c =
    let exit = err_from_is_err_and c.from_residual.result c.from_residual.ensures.1 in
    record {
      makes = λ list chain above ws keys is batch. record {
        instance = IfOk-from_err c.from_residual.result _ c.from_residual.ensures.0;
        fit = IfOk-from_err c.from_residual.result _ c.from_residual.ensures.0;
        made = IfOk-from_err c.from_residual.result _ c.from_residual.ensures.0;
        stale = err-memory c.from_residual.result exit.0 _ exit.1 exit.2 (λ stale. absurd (memory-not_stale stale));
        refused = err-memory c.from_residual.result exit.0 _ exit.1 exit.2 (λ fresh. tt);
      };
      reads = unread-memory _ g.C.Store c.args.self.now c.from_residual.result exit.0 exit.1 exit.2;
    }

pub returns : goal.returns
returns g c =
    let members = g.C.Store in
    let hashing = sha256_hashing g.F.Family.shape g.U.Update.form in
    let layout = sha256_layout g.F.Family.shape offered_chunk g.U.Update.form g.I.Unordered.index_key in
    let old = c.args.self.now in
    let new = c.merkleize.new.db in
    let r = c.merkleize.result in
    let said = c.merkleize.ensures in
    let staged = c.args.batch in
    let begun = begun_of staged in
    let parent = c.batch.invariant in
    let few = subst (λ (s : Staged _). s.any.batch.keep ≤ suc (length s.any.batch.parent.bounds.ancestors)) c.batch.view_is (few-kept c.batch.inside.any.batch _ _ parent.0 parent.1 parent.2) in
    record {
      makes = λ list chain above ws keys is batch.
          let meta = ap (option_map g.U.Value.ByteString.bytes) c.in_ok-metadata.ensures in
          let wrote =
          ap₂ (λ w k. slotted w k (slot_views g.U.Value.ByteString.bytes c.deref.result.now) (write_views g.U.Key.ByteString.bytes g.U.Value.ByteString.bytes c.deref-2.result.now)) batch.1 batch.2
          ∙ ap₂ (λ s o. slotted ws keys (slot_views g.U.Value.ByteString.bytes s) (write_views g.U.Key.ByteString.bytes g.U.Value.ByteString.bytes o)) c.deref.ensures.value c.deref-2.ensures.value in
          makes _ _ refl old old.instance (λ n number. sym number) list chain (can_make old begun)
          (decides hashing offered_chunk old begun list chain above few is.at.any.commitment (staged-begun hashing offered_chunk staged chain above batch.0))
          members old.any.log new.any.log _ _ _ _ r
          (ap₂ (λ w m. stepped g.U.Update.form g.P.Policy.rules chain.base w c.args.policy.now m) wrote meta)
          (ap (λ w. evicted_after g.U.Update.form g.P.Policy.rules chain.base w c.args.policy.now) wrote)
          said.fits
          (λ own here. (said.makes list chain above is.at batch.0 own here).made)
          (λ own here. (said.makes list chain above is.at batch.0 own here).taken)
          (λ own here. (said.makes list chain above is.at batch.0 own here).refused)
          (err-then r said.unmade (λ e why. why.stale))
          (err-then r said.unmade (λ e why. why.order))
          (λ here. said.whole list chain above is.at.any batch.0.any here);
      reads = record {
        same = left-offered members layout old new said.left;
        numbered = λ n is. ap (λ (d : Database _ _). d.instance) said.left.rest ∙ is;
        store = left-store members hashing old.any new.any said.left.any;
        faults = record { later = (said.left.any).read.keeps.later; failed = err-of r (Journal Store) _ (err-then r said.unmade (λ e why. why.cause)) };
      };
    }
