use Rattle.std.proofs.Common.{◌∙◌, ap, sym, map}
use Rattle.std.specs.Prelude.{option_map}
use Rattle.std.proofs.lemmas.Result.{err_from_is_err_and}
use Rattle.qm_model.proofs.Results.{told-any, told-err, told-one}
use Rattle.qm_step.specs.Layers.{nearest_layer}
use Rattle.qm_step.specs.Views.{change_view, read_view}
use Rattle.qm_batch.proofs.HolderOf.{holder-none, holder-read, holder-some}
use Rattle.qm_batch.proofs.Layered.{layer-update}
use Rattle.qm_step.proofs.Reading.{ok-same}
use Rattle.qm_base.proofs.Reading.{reads-on, reads-short, read-none}
use Rattle.qm_batch.proofs.neighbours.holder.Goals as goal

pub returns-in-Some-2 : goal.returns-in-Some-2
returns-in-Some-2 g c = record {
  value = λ lent base is from ring_lent ring_base.
      let key = g.U.Key.ByteString.bytes c.args.key.now in
      let value = g.U.Value.ByteString.bytes in
      let layers = map (λ l. l.value) c.args.layers.now in
      told-any _ (g.L.Items.reads.told c.args.log.now)
      (holder-some _ base key c.in_ok-found-in-Some.field-0 c.in-Some-2.found _
      (layer-update layers lent base from key c.in-Some.layer.now (change_view value c.in-Some.entry.now)
      (ap (option_map (λ p. (p.0.now, change_view value p.1.now))) (sym c.in-Some.is) ∙ c.newest.ensures ∙ ap (nearest_layer layers) c.as_bytes.ensures.value))
      c.in_ok-found-in-Some.ensures.value c.in-Some-2.is);
  reads = reads-short g.L.Items.reads _ (read-none g.L.Items.reads g.met.L.Items.unread c.args.log.now) tt;
}

pub returns-in-None-2 : goal.returns-in-None-2
returns-in-None-2 g c = record {
  value = λ lent base is from ring_lent ring_base.
      let key = g.U.Key.ByteString.bytes c.args.key.now in
      let value = g.U.Value.ByteString.bytes in
      let layers = map (λ l. l.value) c.args.layers.now in
      told-one _ _ (g.L.Items.reads.told c.args.log.now) (c.previous.ensures.value lent base is from ring_lent ring_base) (λ found.
      ok-same c.previous.result _ _ _
      (holder-none _ base key c.in_ok-found-in-Some.field-0 _
      (layer-update layers lent base from key c.in-Some.layer.now (change_view value c.in-Some.entry.now)
      (ap (option_map (λ p. (p.0.now, change_view value p.1.now))) (sym c.in-Some.is) ∙ c.newest.ensures ∙ ap (nearest_layer layers) c.as_bytes.ensures.value))
      c.in_ok-found-in-Some.ensures.value c.in-None-2.is) found);
  reads = c.previous.ensures.reads;
}

pub returns-in_ok-lent-in-None : goal.returns-in_ok-lent-in-None
returns-in_ok-lent-in-None g c = record {
  value = λ lent base is from ring_lent ring_base.
      let form = g.U.Update.form in
      let key = g.U.Key.ByteString.bytes c.args.key.now in
      let value = g.U.Value.ByteString.bytes in
      let layers = map (λ l. l.value) c.args.layers.now in
      let key_bytes = g.U.Key.ByteString.are_bytes key (sym (ap g.U.Key.ByteString.has c.as_bytes.ensures.value) ∙ c.as_bytes.ensures.known) in
      let none = sym (ap (option_map (λ p. (p.0.now, change_view value p.1.now))) (sym c.in-None.is) ∙ c.newest.ensures ∙ ap (nearest_layer layers) c.as_bytes.ensures.value) in
      told-one _ _ (g.L.Items.reads.told c.args.log.now) (c.in_ok-lent-in-None.ensures.value lent is) (λ found.
      ok-same c.own_or_nearer.result (option_map (read_view g.U.Update.view)) _ _
      (holder-read form g.met.U.Steps.known_bytes g.I.Unordered.index_key (g.met.U.Steps.monotone c.requires) (g.I.Unordered.entries c.args.index.now) c.last_lent.ensures.index
      layers lent base is.indexed is.of from ring_lent ring_base key key_bytes _ _ _ _ c.as_bytes-in-None.ensures.value c.as_bytes-in-None-2.ensures.value c.as_bytes-in-None-3.ensures.value none found) c.own_or_nearer.ensures.value);
  reads = reads-short g.L.Items.reads c.own_or_nearer.result c.last_lent.ensures.reads.left c.own_or_nearer.ensures.memory;
}

pub returns-in_err-found-in-Some : goal.returns-in_err-found-in-Some
returns-in_err-found-in-Some g c =
    let exit = err_from_is_err_and c.from_residual.result c.from_residual.ensures.1 in
    record {
      value = λ lent base is from ring_lent ring_base. told-err _ (g.L.Items.reads.told c.args.log.now) c.from_residual.result exit.0 exit.1;
      reads = reads-short g.L.Items.reads c.from_residual.result (read-none g.L.Items.reads g.met.L.Items.unread c.args.log.now) (rw (exit.1, exit.2) c.in_err-found-in-Some.ensures.memory);
    }

pub returns-in_err-lent-in-None : goal.returns-in_err-lent-in-None
returns-in_err-lent-in-None g c =
    let exit = err_from_is_err_and c.from_residual-in_err-lent-in-None.result c.from_residual-in_err-lent-in-None.ensures.1 in
    record {
      value = λ lent base is from ring_lent ring_base. told-err _ (g.L.Items.reads.told c.args.log.now) c.from_residual-in_err-lent-in-None.result exit.0 exit.1;
      reads = reads-on g.L.Items.reads c.from_residual-in_err-lent-in-None.result c.in_err-lent-in-None.ensures.reads exit.1 exit.2;
    }
