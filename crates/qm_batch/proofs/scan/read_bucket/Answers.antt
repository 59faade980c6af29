use Rattle.std.proofs.Common.{◌∙◌, ap, map, refl}
use Rattle.std.proofs.lemmas.Result.{err_from_is_err_and}
use Rattle.qm_model.proofs.Results.{told-err}
use Rattle.qm_base.specs.Views.{pair_view}
use Rattle.qm_batch.specs.Scans.{behind_first}
use Rattle.qm_base.proofs.Reading.{reads-on, reads-short}
use Rattle.qm_batch.proofs.scan.read_bucket.Goals as goal

pub returns-in_err-pairs : goal.returns-in_err-pairs
returns-in_err-pairs g c =
    let exit = err_from_is_err_and c.from_residual.result c.from_residual.ensures.1 in
    record {
      value = λ list is of. told-err _ (g.L.Items.reads.told c.args.log.now) c.from_residual.result exit.0 exit.1;
      place = rw exit.1 tt;
      reads = reads-on g.L.Items.reads c.from_residual.result c.in_err-pairs.ensures.reads exit.1 exit.2;
    }

pub returns-in_err-place : goal.returns-in_err-place
returns-in_err-place g c =
    let exit = err_from_is_err_and c.from_residual-in_err-place.result c.from_residual-in_err-place.ensures.1 in
    record {
      value = λ list is of. told-err _ (g.L.Items.reads.told c.args.log.now) c.from_residual-in_err-place.result exit.0 exit.1;
      place = rw exit.1 tt;
      reads = reads-short g.L.Items.reads c.from_residual-in_err-place.result c.pairs_at.ensures.reads.left (rw (exit.1, exit.2) refl);
    }

pub returns : goal.returns
returns g c = record {
  value = c.in_ok-pairs.ensures.value;
  place = c.in_ok-place.ensures ∙ ap (λ ps. behind_first (map (pair_view g.U.Key.ByteString.bytes g.U.Value.ByteString.bytes) ps)) c.deref.ensures.value;
  reads = reads-short g.L.Items.reads _ c.pairs_at.ensures.reads.left tt;
}
