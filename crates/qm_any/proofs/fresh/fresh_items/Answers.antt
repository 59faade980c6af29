use Rattle.std.proofs.Common.{◌≡◌, ◌∙◌, map, length, ap, refl, sym}
use Rattle.std.proofs.lemmas.List.{length-map}
use Rattle.std.proofs.lemmas.Result.{IfOk-from_err}
use Rattle.qm_model.specs.Forms.{spelling}
use Rattle.qm_model.specs.Operations.{fresh}
use Rattle.qm_model.proofs.Results.{ok-then}
use Rattle.qm_operations.specs.Views.{operation_views}
use Rattle.qm_any.proofs.fresh.fresh_items.Goals as goal

pub returns-in_err-push : goal.returns-in_err-push
returns-in_err-push g c = record {
  items = IfOk-from_err c.from_residual.result _ c.from_residual.ensures.0;
  count = IfOk-from_err c.from_residual.result _ c.from_residual.ensures.0;
}

pub returns : goal.returns
returns g c =
    let spelled = c.spelled.result in
    let viewed : operation_views g.U.Update.view g.U.Key.ByteString.bytes g.U.Value.ByteString.bytes c.deref.result.now ≡ fresh = rw (c.deref.ensures.value, c.in_ok-push.ensures.items, c.new-list.ensures.items, c.new.ensures) refl in
    record {
      items = ok-then spelled c.spelled.ensures.items (λ items is. is ∙ ap (map (spelling g.U.Update.form)) viewed);
      count = ok-then spelled c.spelled.ensures.items (λ items is. sym (length-map items.items (λ v. v.items)) ∙ ap length (is ∙ ap (map (spelling g.U.Update.form)) viewed));
    }
