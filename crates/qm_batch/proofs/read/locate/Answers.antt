use Rattle.std.proofs.Common.{◌∙◌, ap, sym, map, refl}
use Rattle.std.specs.Prelude.{option_map}
use Rattle.qm_model.proofs.Results.{told-any, told-one, told-err}
use Rattle.qm_step.specs.Changes.{link_of}
use Rattle.qm_step.specs.Layers.{nearest_layer}
use Rattle.qm_step.specs.Views.{change_view, stands_view}
use Rattle.qm_step.proofs.Entries.{link-of_update}
use Rattle.qm_step.proofs.Reading.{ok-same}
use Rattle.qm_batch.proofs.Layered.{layer-update, lent-update}
use Rattle.std.proofs.lemmas.Result.{err_from_is_err_and}
use Rattle.qm_base.proofs.Reading.{reads-on, reads-short, read-none}
use Rattle.qm_batch.proofs.read.locate.Goals as goal

pub returns-in-Some : goal.returns-in-Some
returns-in-Some g c = record {
  value = λ lent base is from.
      let key = g.U.Key.ByteString.bytes c.args.key.now in
      let value = g.U.Value.ByteString.bytes in
      let layers = map (λ l. l.value) c.args.layers.now in
      told-any _ (g.L.Items.reads.told c.args.log.now)
      (ok-same c.stands_by.result (option_map (stands_view g.U.Key.ByteString.bytes)) _ _
      (ap (option_map link_of) (sym (layer-update layers lent base from key c.in-Some.layer.now (change_view value c.in-Some.entry.now)
      (ap (option_map (λ p. (p.0.now, change_view value p.1.now))) (sym c.in-Some.is) ∙ c.newest.ensures ∙ ap (nearest_layer layers) c.as_bytes.ensures.value)))
      ∙ link-of_update base key)
      c.stands_by.ensures.value);
  reads = reads-short g.L.Items.reads c.stands_by.result (read-none g.L.Items.reads g.met.L.Items.unread c.args.log.now) c.stands_by.ensures.memory;
}

pub returns-in_ok-stands-in-None : goal.returns-in_ok-stands-in-None
returns-in_ok-stands-in-None g c = record {
  value = λ lent base is from.
      let key = g.U.Key.ByteString.bytes c.args.key.now in
      let value = g.U.Value.ByteString.bytes in
      let layers = map (λ l. l.value) c.args.layers.now in
      told-one _ _ (g.L.Items.reads.told c.args.log.now) (c.in_ok-found-in-None.ensures.value lent is) (λ found.
      c.in_ok-stands-in-None.ensures ∙ ap (option_map link_of) (found ∙ sym (lent-update layers lent base from key
      (ap (option_map (λ p. (p.0.now, change_view value p.1.now))) (sym c.in-None.is) ∙ c.newest.ensures ∙ ap (nearest_layer layers) c.as_bytes.ensures.value)))
      ∙ link-of_update base key);
  reads = reads-short g.L.Items.reads _ c.read_bucket.ensures.reads.left tt;
}

pub returns-in_err-found-in-None : goal.returns-in_err-found-in-None
returns-in_err-found-in-None g c =
    let exit = err_from_is_err_and c.from_residual.result c.from_residual.ensures.1 in
    record {
      value = λ lent base is from. told-err _ (g.L.Items.reads.told c.args.log.now) c.from_residual.result exit.0 exit.1;
      reads = reads-on g.L.Items.reads c.from_residual.result c.in_err-found-in-None.ensures.reads exit.1 exit.2;
    }

pub returns-in_err-stands-in-None : goal.returns-in_err-stands-in-None
returns-in_err-stands-in-None g c =
    let exit = err_from_is_err_and c.from_residual-in_err-stands-in-None.result c.from_residual-in_err-stands-in-None.ensures.1 in
    record {
      value = λ lent base is from. told-err _ (g.L.Items.reads.told c.args.log.now) c.from_residual-in_err-stands-in-None.result exit.0 exit.1;
      reads = reads-short g.L.Items.reads c.from_residual-in_err-stands-in-None.result c.read_bucket.ensures.reads.left (rw (exit.1, exit.2) refl);
    }
