use Rattle.std.proofs.Common.{◌∙◌, ap, sym, map}
use Rattle.std.specs.Prelude.{option_map}
use Rattle.qm_model.proofs.Results.{told-one, told-err}
use Rattle.qm_step.specs.Views.{read_view}
use Rattle.qm_step.proofs.Reading.{ok-same}
use Rattle.qm_batch.proofs.HolderOf.{previous-read}
use Rattle.std.proofs.lemmas.Result.{err_from_is_err_and}
use Rattle.qm_base.proofs.Reading.{reads-on, reads-short}
use Rattle.qm_batch.proofs.neighbours.previous.Goals as goal

pub returns : goal.returns
returns g c = record {
  value = λ lent base is from ring_lent ring_base.
      let form = g.U.Update.form in
      let key = g.U.Key.ByteString.bytes c.args.key.now in
      let key_bytes = g.U.Key.ByteString.are_bytes key (sym (ap g.U.Key.ByteString.has c.as_bytes.ensures.value) ∙ c.as_bytes.ensures.known) in
      told-one _ _ (g.L.Items.reads.told c.args.log.now) (c.in_ok-lent.ensures.value lent is) (λ found.
      ok-same c.nearer.result (option_map (read_view g.U.Update.view)) _ _
      (previous-read form g.met.U.Steps.known_bytes g.I.Unordered.index_key (g.met.U.Steps.monotone c.requires) (g.I.Unordered.entries c.args.index.now) c.last_lent.ensures.index
      (map (λ l. l.value) c.args.layers.now) lent base is.indexed is.of from ring_lent ring_base key key_bytes _ _ _ _ c.as_bytes.ensures.value c.as_bytes-2.ensures.value c.as_bytes-3.ensures.value found) c.nearer.ensures.value);
  reads = reads-short g.L.Items.reads c.nearer.result c.last_lent.ensures.reads.left c.nearer.ensures.memory;
}

pub returns-in_err-lent : goal.returns-in_err-lent
returns-in_err-lent g c =
    let exit = err_from_is_err_and c.from_residual.result c.from_residual.ensures.1 in
    record {
      value = λ lent base is from ring_lent ring_base. told-err _ (g.L.Items.reads.told c.args.log.now) c.from_residual.result exit.0 exit.1;
      reads = reads-on g.L.Items.reads c.from_residual.result c.in_err-lent.ensures.reads exit.1 exit.2;
    }
