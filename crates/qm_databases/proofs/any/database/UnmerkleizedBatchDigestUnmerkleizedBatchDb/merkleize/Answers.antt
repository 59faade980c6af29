use Rattle.std.proofs.Common.{◌∙◌, ap, sym, refl, option_map}
use Rattle.qm_model.proofs.Results.{err-then, ok-then}
use Rattle.qm_step.specs.Views.{stepped}
use Rattle.qm_base.specs.declared.error.Error.TheVariants.{Journal}
use Rattle.qm_base.specs.declared.error.JournalError.TheVariants.{Store}
use Rattle.qm_any.specs.Databases.{is_on}
use Rattle.qm_any.specs.Layouts.{layout_of, list_root}
use Rattle.qm_any.proofs.Reading.{left-database}
use Rattle.qm_any.proofs.Offered.{err-of, left-store, off-chain, on-begun}
use Rattle.qm_databases.proofs.Making.{makes}
use Rattle.qm_databases.proofs.any.database.UnmerkleizedBatchDigestUnmerkleizedBatchDb.merkleize.Goals as goal

pub returns : goal.returns
returns g c =
    let layout = layout_of g.N.Chunks.LEN g.H.Digest.Digest.bytes g.H.Hasher g.F.Family g.U.Update g.I.Unordered in
    let hashing = layout.hashing in
    let old = c.args.db.now in
    let new = c.merkleize.new.db in
    let r = c.merkleize.result in
    let said = c.merkleize.ensures in
    let begun = c.args.self in
    record {
      makes = λ list chain above ws is batch.
          let on = on-begun hashing list chain above old.commitment begun batch.few is.commitment batch.begun in
          makes _ g.C.Store old old.log new.log list chain _ _ r (is_on old.commitment begun)
          (ap (λ w. stepped g.U.Update.form g.P.Policy.rules chain.base w c.args.policy.now (option_map g.U.Value.ByteString.bytes c.args.metadata)) batch.writes)
          (λ can n numbered. refl)
          (λ can. sym on ∙ can)
          (λ off n numbered took. off-chain (list_root hashing) list chain (sym on ∙ off))
          said.fits
          (λ can here. ok-then r (said.makes list chain above is batch.begun here).made (λ b made. made.0))
          (λ can here. (said.makes list chain above is batch.begun here).taken)
          (λ can here. (said.makes list chain above is batch.begun here).refused)
          (err-then r said.unmade (λ e why. why.stale))
          (err-then r said.unmade (λ e why. why.order))
          (λ here. said.whole list chain above is batch.begun here);
      reads = record {
        same = λ list is. left-database g.C.Store layout old new list said.left is;
        numbered = λ n is. tt;
        store = left-store g.C.Store hashing old new said.left;
        faults = record { later = (said.left).read.keeps.later; failed = err-of r (Journal Store) _ (err-then r said.unmade (λ e why. why.cause)) };
      };
    }
