use Rattle.std.proofs.Common.{◌∙◌, ◌-◌, ap, sym}
use Rattle.std.specs.Borrow.{Bor}
use Rattle.std.specs.Prelude.{option_map, option_and_then}
use Rattle.std.proofs.lemmas.Result.{IfOk-weaker}
use Rattle.qm_model.specs.Operations.{Operation}
use Rattle.qm_operations.specs.Views.{operation_view}
use Rattle.qm_step.specs.Changes.{link_of, said_by, update_at}
use Rattle.qm_batch.proofs.LayerEntries.{none-at, some-at, said-at, linked}
use Rattle.qm_batch.proofs.read.stands_by.Goals as goal

pub returns-in-Some : goal.returns-in-Some
returns-in-Some g c = record {
  value =
      let at = c.in-Some.at in
      let layer = c.args.layer.now in
      let lookup = c.get-in-Some-2.ensures.lookup in
      let place = c.saturating_sub-place.ensures ∙ ap (λ n. n - c.base.result) c.get.ensures ∙ ap (λ n. at - n) c.base.ensures in
      let said = said-at (operation_view g.U.Update.view g.U.Key.ByteString.bytes g.U.Value.ByteString.bytes) c.operations.result.now layer.operations _ _ c.get-in-Some-2.result c.operations.ensures place lookup.0 lookup.1 in
      let left = some-at g.U.Value.ByteString.bytes layer c.args.entry.now at (sym c.loc.ensures ∙ c.in-Some.is) in
      let there = linked at (update_at layer.operations (at - layer.base)) ∙ ap (option_map link_of) (sym left) in
      IfOk-weaker c.stands_in.result _ _
      (λ stands given. given ∙ ap (λ n. option_map (λ (op : Operation). link_of (n, op)) (option_and_then said_by (option_map (λ (op : Bor _). operation_view g.U.Update.view g.U.Key.ByteString.bytes g.U.Value.ByteString.bytes op.now) c.get-in-Some-2.result))) c.get-in-Some.ensures
      ∙ ap (option_map (λ (op : Operation). link_of (at, op))) said ∙ there)
      c.stands_in.ensures.value;
  memory = c.stands_in.ensures.memory;
}

pub returns-in-None : goal.returns-in-None
returns-in-None g c = record {
  value = ap (option_map link_of) (none-at g.U.Value.ByteString.bytes c.args.layer.now c.args.entry.now (sym c.loc.ensures ∙ c.in-None.is));
  memory = tt;
}
