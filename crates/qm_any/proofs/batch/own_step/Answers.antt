use Rattle.std.proofs.Common.{◌∙◌, ap}
use Rattle.std.proofs.lemmas.Result.{IfOk-from_err}
use Rattle.qm_operations.specs.Views.{operation_views}
use Rattle.qm_step.specs.Views.{changes_view}
use Rattle.qm_any.proofs.batch.own_step.Goals as goal

pub returns : goal.returns
returns g c =
    let key = g.U.Key.ByteString.bytes in
    let value = g.U.Value.ByteString.bytes in
    c.in_ok-new.ensures.ok ∙ c.new-2.ensures
    ∙ ap (λ ds. record { base = c.args.size; operations = operation_views g.U.Update.view key value c.args.operations.items; changes = changes_view key value ds }) c.in_ok-diff.ensures.ok

pub returns-in_err-diff : goal.returns-in_err-diff
returns-in_err-diff g c = IfOk-from_err c.from_residual.result _ c.from_residual.ensures.0

pub returns-in_err-new : goal.returns-in_err-new
returns-in_err-new g c = IfOk-from_err c.from_residual-in_err-new.result _ c.from_residual-in_err-new.ensures.0
