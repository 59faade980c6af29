use Rattle.std.proofs.Common.{◌∙◌, ◌-◌, ap, refl, sym}
use Rattle.std.specs.Prelude.{option_map}
use Rattle.std.proofs.lemmas.Option.{slice_get_past, slice_get_read}
use Rattle.std.proofs.lemmas.Result.{err_from_is_err_and}
use Rattle.qm_model.specs.Operations.{Operation}
use Rattle.qm_operations.specs.Views.{operation_view}
use Rattle.qm_batch.proofs.LayerEntries.{none-at, some-at, said-there, none-there}
use Rattle.qm_batch.proofs.read.update_from.Goals as goal

pub returns-in_default : goal.returns-in_default
returns-in_default g c = record {
  value = none-at g.U.Value.ByteString.bytes c.args.layer.now c.args.entry.now (sym c.loc.ensures ∙ c.in_default.is);
  memory = tt;
}

pub returns-in_err-update-in-Some-get : goal.returns-in_err-update-in-Some-get
returns-in_err-update-in-Some-get g c =
    let exit = err_from_is_err_and c.from_residual.result c.from_residual.ensures.1 in
    record {
      value = rw exit.1 tt;
      memory = rw exit.1 (exit.2 ∙ c.in_err-update-in-Some-get.ensures.memory);
    }

pub returns-in-Some-2 : goal.returns-in-Some-2
returns-in-Some-2 g c = record {
  value =
      let at = c.in-Some.at in
      let layer = c.args.layer.now in
      let lookup = c.in-Some-get.ensures.lookup in
      let there = slice_get_read c.operations.result.now _ c.saturating_sub.result c.in-Some-get.operation.now refl lookup.3.0 lookup.1 in
      let place = c.saturating_sub.ensures ∙ ap (λ n. n - c.base.result) c.get.ensures ∙ ap (λ n. at - n) c.base.ensures in
      let said = said-there (operation_view g.U.Update.view g.U.Key.ByteString.bytes g.U.Value.ByteString.bytes) c.operations.result.now layer.operations _ _ _ c.operations.ensures place there in
      sym (some-at g.U.Value.ByteString.bytes layer c.args.entry.now at (sym c.loc.ensures ∙ c.in-Some.is)
      ∙ ap (option_map (λ (op : Operation). (at, op))) (said ∙ sym c.in_ok-update-in-Some-get.ensures.value ∙ ap (option_map g.U.Update.view) c.in-Some-2.is));
  memory = tt;
}

pub returns-in-None-2 : goal.returns-in-None-2
returns-in-None-2 g c = record {
  value =
      let at = c.in-Some.at in
      let layer = c.args.layer.now in
      let lookup = c.in-Some-get.ensures.lookup in
      let there = slice_get_read c.operations.result.now _ c.saturating_sub.result c.in-Some-get.operation.now refl lookup.3.0 lookup.1 in
      let place = c.saturating_sub.ensures ∙ ap (λ n. n - c.base.result) c.get.ensures ∙ ap (λ n. at - n) c.base.ensures in
      let said = said-there (operation_view g.U.Update.view g.U.Key.ByteString.bytes g.U.Value.ByteString.bytes) c.operations.result.now layer.operations _ _ _ c.operations.ensures place there in
      sym (some-at g.U.Value.ByteString.bytes layer c.args.entry.now at (sym c.loc.ensures ∙ c.in-Some.is)
      ∙ ap (option_map (λ (op : Operation). (at, op))) (said ∙ sym c.in_ok-update-in-Some-get.ensures.value ∙ ap (option_map g.U.Update.view) c.in-None-2.is));
  memory = tt;
}

pub returns-in-None : goal.returns-in-None
returns-in-None g c = record {
  value =
      let at = c.in-Some.at in
      let layer = c.args.layer.now in
      let there = slice_get_past c.operations.result.now c.saturating_sub.result c.in-None.ensures.lookup.3 in
      let place = c.saturating_sub.ensures ∙ ap (λ n. n - c.base.result) c.get.ensures ∙ ap (λ n. at - n) c.base.ensures in
      sym (some-at g.U.Value.ByteString.bytes layer c.args.entry.now at (sym c.loc.ensures ∙ c.in-Some.is)
      ∙ ap (option_map (λ (op : Operation). (at, op)))
      (none-there (operation_view g.U.Update.view g.U.Key.ByteString.bytes g.U.Value.ByteString.bytes) c.operations.result.now layer.operations _ _ c.operations.ensures place there));
  memory = tt;
}
