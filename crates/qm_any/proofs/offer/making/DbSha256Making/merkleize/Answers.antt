use Rattle.std.proofs.Common.{◌≤◌, suc, length, ap, ap₂, refl, subst, option_map}
use Rattle.std.proofs.lemmas.Result.{IfOk-from_err, err_from_is_err_and}
use Rattle.qm_model.proofs.Results.{err-then}
use Rattle.qm_step.specs.Views.{evicted_after, stepped}
use Rattle.qm_base.specs.declared.error.Error.TheVariants.{Journal}
use Rattle.qm_base.specs.declared.error.JournalError.TheVariants.{Store}
use Rattle.qm_any.specs.Databases.{Begun}
use Rattle.qm_any.proofs.Reading.{left-database}
use Rattle.qm_any.proofs.Offered.{err-of, left-store, on-begun, makes, err-memory, memory-not_stale, unread-memory}
use Rattle.qm_any.proofs.offer.making.DbSha256Making.merkleize.Goals as goal
use Rattle.qm_any.specs.Offered.{sha256_hashing, sha256_layout}

pub returns-in_err-metadata : goal.returns-in_err-metadata
returns-in_err-metadata g c =
    let exit = err_from_is_err_and c.from_residual.result c.from_residual.ensures.1 in
    record {
      makes = λ list chain above ws is batch. record {
        instance = IfOk-from_err c.from_residual.result _ c.from_residual.ensures.0;
        fit = IfOk-from_err c.from_residual.result _ c.from_residual.ensures.0;
        made = IfOk-from_err c.from_residual.result _ c.from_residual.ensures.0;
        stale = err-memory c.from_residual.result exit.0 _ exit.1 exit.2 (λ stale. absurd (memory-not_stale stale));
        refused = err-memory c.from_residual.result exit.0 _ exit.1 exit.2 (λ fresh. tt);
      };
      reads = unread-memory _ g.C.Store c.args.self.now c.from_residual.result exit.0 exit.1 exit.2;
    }

pub returns : goal.returns
returns g c =
    let hashing = sha256_hashing g.F.Family.shape g.U.Update.form in
    let layout = sha256_layout g.F.Family.shape g.N.Chunks.LEN g.U.Update.form g.I.Unordered.index_key in
    let old = c.args.self.now in
    let new = c.merkleize.new.db in
    let r = c.merkleize.result in
    let said = c.merkleize.ensures in
    let begun = c.args.batch in
    record {
      makes = λ list chain above ws is batch.
          let meta = ap (option_map g.U.Value.ByteString.bytes) c.in_ok-metadata.ensures in
          makes _ g.C.Store old old.log new.log list chain _ _ _ _ r _ refl
          (ap₂ (λ w m. stepped g.U.Update.form g.P.Policy.rules chain.base w c.args.policy.now m) batch.1 meta)
          (ap (λ w. evicted_after g.U.Update.form g.P.Policy.rules chain.base w c.args.policy.now) batch.1)
          (on-begun hashing list chain above old.commitment begun (subst (λ (b : Begun _). b.keep ≤ suc (length b.parent.bounds.ancestors)) c.batch.view_is c.batch.invariant) is.commitment batch.0)
          said.fits
          (λ here. (said.makes list chain above is batch.0 here).made)
          (λ here. (said.makes list chain above is batch.0 here).taken)
          (λ here. (said.makes list chain above is batch.0 here).refused)
          (err-then r said.unmade (λ e why. why.stale))
          (err-then r said.unmade (λ e why. why.order))
          (λ here. said.whole list chain above is batch.0 here);
      reads = record {
        same = λ list is. left-database g.C.Store layout old new list said.left is;
        numbered = λ n is. tt;
        store = left-store g.C.Store hashing old new said.left;
        faults = record { later = (said.left).read.keeps.later; failed = err-of r (Journal Store) _ (err-then r said.unmade (λ e why. why.cause)) };
      };
    }
