use Rattle.std.proofs.Common.{◌∙◌, true, false, ap, map, refl, sym, inl, inr}
use Rattle.std.proofs.lemmas.Result.{IfOk-from_err, err_from_is_err_and}
use Rattle.std.specs.Prelude.{is_ok}
use Rattle.qm_chain.specs.Bounds.{commitment_view}
use Rattle.qm_any.proofs.Unmade.{tested-at}
use Rattle.qm_any.proofs.batch.MerkleizedBatch.child.Goals as goal

pub returns-in_err-tips : goal.returns-in_err-tips
returns-in_err-tips g c =
    let exit = err_from_is_err_and c.from_residual.result c.from_residual.ensures.1 in
    record {
      placed = IfOk-from_err c.from_residual.result _ c.from_residual.ensures.0;
      metadata = IfOk-from_err c.from_residual.result _ c.from_residual.ensures.0;
      refused = rw (exit.1, exit.2) (inl refl);
    }

pub returns-in_err-validate_batch_applicable : goal.returns-in_err-validate_batch_applicable
returns-in_err-validate_batch_applicable g c =
    let exit = err_from_is_err_and c.from_residual-in_err-validate_batch_applicable.result c.from_residual-in_err-validate_batch_applicable.ensures.1 in
    let view = commitment_view g.D.Digest.bytes in
    let off = tested-at c.args.self.now c.args.keep (view c.args.current.now) (view c.child_boundary-boundary.result) (map view c.deref.result.now) false c.child_boundary-boundary.ensures (ap (map view) c.deref.ensures.value ∙ c.in_ok-tips.ensures)
    (sym c.validate_batch_applicable.ensures.exact ∙ ap is_ok c.in_err-validate_batch_applicable.was) in
    record {
      placed = IfOk-from_err c.from_residual-in_err-validate_batch_applicable.result _ c.from_residual-in_err-validate_batch_applicable.ensures.0;
      metadata = IfOk-from_err c.from_residual-in_err-validate_batch_applicable.result _ c.from_residual-in_err-validate_batch_applicable.ensures.0;
      refused = rw (exit.1, exit.2) (inr (c.in_err-validate_batch_applicable.ensures.stale, off));
    }

pub returns-in_err-metadata : goal.returns-in_err-metadata
returns-in_err-metadata g c =
    let exit = err_from_is_err_and c.from_residual-in_err-metadata.result c.from_residual-in_err-metadata.ensures.1 in
    record {
      placed = IfOk-from_err c.from_residual-in_err-metadata.result _ c.from_residual-in_err-metadata.ensures.0;
      metadata = IfOk-from_err c.from_residual-in_err-metadata.result _ c.from_residual-in_err-metadata.ensures.0;
      refused = rw (exit.1, exit.2) (inl refl);
    }

pub returns : goal.returns
returns g c =
    let view = commitment_view g.D.Digest.bytes in
    let on = tested-at c.args.self.now c.args.keep (view c.args.current.now) (view c.child_boundary-boundary.result) (map view c.deref.result.now) true c.child_boundary-boundary.ensures (ap (map view) c.deref.ensures.value ∙ c.in_ok-tips.ensures)
    (sym c.validate_batch_applicable.ensures.exact ∙ ap is_ok c.in_ok-validate_batch_applicable.was) in
    record {
      placed = record { boundary = c.child_boundary-boundary.ensures; tips = c.in_ok-tips.ensures; on = on };
      metadata = c.in_ok-metadata.ensures;
      refused = tt;
    }
