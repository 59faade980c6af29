use Rattle.std.proofs.Common.{◌∙◌, refl}
use Rattle.qm_model.proofs.Results.{told-one, told-err}
use Rattle.qm_batch.proofs.HolderOf.{above-read}
use Rattle.std.proofs.lemmas.Result.{err_from_is_err_and}
use Rattle.qm_base.proofs.Reading.{reads-on, reads-short}
use Rattle.qm_batch.proofs.neighbours.next_key.Goals as goal

pub returns : goal.returns
returns g c = record {
  value = λ lent base is from ring_lent ring_base.
      told-one _ _ (g.L.Items.reads.told c.args.log.now) (c.in_ok-found.ensures.value lent base is from ring_lent ring_base) (λ found.
      c.in_ok-next_above.ensures ∙ above-read base (g.U.Key.ByteString.bytes c.args.key.now) c.as_bytes.result.now _ ring_base c.as_bytes.ensures.value found);
  reads = reads-short g.L.Items.reads _ c.holder.ensures.reads.left tt;
}

pub returns-in_err-found : goal.returns-in_err-found
returns-in_err-found g c =
    let exit = err_from_is_err_and c.from_residual.result c.from_residual.ensures.1 in
    record {
      value = λ lent base is from ring_lent ring_base. told-err _ (g.L.Items.reads.told c.args.log.now) c.from_residual.result exit.0 exit.1;
      reads = reads-on g.L.Items.reads c.from_residual.result c.in_err-found.ensures.reads exit.1 exit.2;
    }

pub returns-in_err-next_above : goal.returns-in_err-next_above
returns-in_err-next_above g c =
    let exit = err_from_is_err_and c.from_residual-in_err-next_above.result c.from_residual-in_err-next_above.ensures.1 in
    record {
      value = λ lent base is from ring_lent ring_base. told-err _ (g.L.Items.reads.told c.args.log.now) c.from_residual-in_err-next_above.result exit.0 exit.1;
      reads = reads-short g.L.Items.reads c.from_residual-in_err-next_above.result c.holder.ensures.reads.left (rw (exit.1, exit.2) refl);
    }
