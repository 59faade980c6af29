use Rattle.std.proofs.Common.{◌≡◌, ◌∙◌, ap, sym, subst, option_map, true}
use Rattle.std.specs.Prelude.{◌==◌}
use Rattle.qm_model.proofs.Results.{err-then, ok-then}
use Rattle.qm_step.specs.Views.{stepped}
use Rattle.qm_base.specs.declared.error.Error.TheVariants.{Journal}
use Rattle.qm_base.specs.declared.error.JournalError.TheVariants.{Store}
use Rattle.qm_any.specs.Layouts.{layout_of, list_root}
use Rattle.qm_any.proofs.Offered.{err-of, left-store}
use Rattle.qm_current.specs.Databases.{Database}
use Rattle.qm_current.specs.Making.{can_make}
use Rattle.qm_current.proofs.Offering.{decides}
use Rattle.qm_databases.proofs.CurrentBatches.{left-current, own-instance, on-list, off-own}
use Rattle.qm_databases.proofs.Making.{makes}
use Rattle.qm_databases.proofs.current.database.UnmerkleizedBatchDigestUnmerkleizedBatchDb.merkleize.Goals as goal

pub returns : goal.returns
returns g c =
    let members = g.C.Store in
    let chunk = g.N.Chunks.LEN in
    let layout = layout_of chunk g.H.Digest.Digest.bytes g.H.Hasher g.F.Family g.U.Update g.I.Unordered in
    let hashing = layout.hashing in
    let root = list_root hashing in
    let old = c.args.db.now in
    let new = c.merkleize.new.db in
    let r = c.merkleize.result in
    let said = c.merkleize.ensures in
    let begun = c.args.self in
    let can = can_make old begun in
    record {
      makes = λ list chain above ws is batch.
          let decided = decides hashing chunk old begun list chain above batch.few is.any.commitment batch.begun in
          let same = λ (on : can ≡ true). own-instance root old.instance list chain can decided on in
          makes _ members old old.any.log new.any.log list chain _ _ r can
          (ap (λ w. stepped g.U.Update.form g.P.Policy.rules chain.base w c.args.policy.now (option_map g.U.Value.ByteString.bytes c.args.metadata)) batch.writes)
          (λ on n numbered. subst (λ k. (k == chain.instance) ≡ true) numbered (same on).1)
          (λ on. on-list root old.instance list chain can decided on)
          (λ off n numbered took. off-own root old.instance list chain can decided off (subst (λ k. (k == chain.instance) ≡ true) (sym numbered) took))
          said.fits
          (λ on here. ok-then r (said.makes list chain above is batch.begun (same on).0 here).made (λ b made. made.0))
          (λ on here. (said.makes list chain above is batch.begun (same on).0 here).taken)
          (λ on here. (said.makes list chain above is batch.begun (same on).0 here).refused)
          (err-then r said.unmade (λ e why. why.stale))
          (err-then r said.unmade (λ e why. why.order))
          (λ here. said.whole list chain above is.any batch.begun.any here);
      reads = record {
        same = left-current members layout old new said.left.rest said.left.any;
        numbered = λ n is. ap (λ (d : Database _ _). d.instance) said.left.rest ∙ is;
        store = left-store members hashing old.any new.any said.left.any;
        faults = record { later = (said.left.any).read.keeps.later; failed = err-of r (Journal Store) _ (err-then r said.unmade (λ e why. why.cause)) };
      };
    }
