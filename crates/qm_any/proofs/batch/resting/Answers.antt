use Rattle.std.proofs.Common.{◌≡◌, ◌∙◌, ◌∷◌, [], ◌++◌, map, ap, ap₂}
use Rattle.std.proofs.lemmas.Result.{IfOk-from_err}
use Rattle.qm_operations.specs.Views.{operation_views}
use Rattle.qm_step.specs.Layers.{Layer}
use Rattle.qm_step.specs.Views.{changes_view}
use Rattle.qm_any.proofs.batch.resting.Goals as goal

pub returns : goal.returns
returns g c =
    let key = g.U.Key.ByteString.bytes in
    let value = g.U.Value.ByteString.bytes in
    let step : c.in_ok-step.step.value ≡ record { base = c.args.size; operations = []; changes = [] } =
    c.in_ok-step.ensures ∙ ap₂ (λ ops ds. record { base = c.args.size; operations = operation_views g.U.Update.view key value ops; changes = changes_view key value ds }) c.new.ensures.items
    (c.new-3.ensures ∙ c.new-2.ensures.items) in
    ap (map (λ l. l.value)) (c.in_ok-push.ensures.items ∙ ap (λ ls. ls ++ c.in_ok-step.step ∷ []) c.new-steps.ensures.items) ∙ ap (λ (l : Layer). l ∷ []) step

pub returns-in_err-step : goal.returns-in_err-step
returns-in_err-step g c = IfOk-from_err c.from_residual.result _ c.from_residual.ensures.0

pub returns-in_err-push : goal.returns-in_err-push
returns-in_err-push g c = IfOk-from_err c.from_residual-in_err-push.result _ c.from_residual-in_err-push.ensures.0
