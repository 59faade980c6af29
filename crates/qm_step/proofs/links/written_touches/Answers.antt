use Rattle.std.proofs.Common.{◌++◌, ◌∙◌, ap, ap₂, refl}
use Rattle.std.proofs.lemmas.Result.{IfOk-from_err}
use Rattle.qm_step.specs.OrderedViews.{ordered_touches}
use Rattle.qm_step.proofs.links.written_touches.Goals as goal

pub returns : goal.returns
returns g c = λ base stand.
    let show = ordered_touches g.K.ByteString.bytes g.V.Value.ByteString.bytes in
    c.in_ok-add_relinked.ensures base stand
    ∙ ap₂ (λ a b. a ++ b) (c.in_ok-add_written-3.ensures
    ∙ ap₂ (λ a b. a ++ b) (c.in_ok-add_written-2.ensures ∙ ap₂ (λ a b. a ++ b) (c.in_ok-add_written.ensures ∙ ap₂ (λ a b. a ++ b) (ap show c.new-touches.ensures.items) refl) refl) refl) refl

pub returns-in_err-add_written : goal.returns-in_err-add_written
returns-in_err-add_written g c = IfOk-from_err c.from_residual.result _ c.from_residual.ensures.0

pub returns-in_err-add_written-2 : goal.returns-in_err-add_written-2
returns-in_err-add_written-2 g c = IfOk-from_err c.from_residual-in_err-add_written-2.result _ c.from_residual-in_err-add_written-2.ensures.0

pub returns-in_err-add_written-3 : goal.returns-in_err-add_written-3
returns-in_err-add_written-3 g c = IfOk-from_err c.from_residual-in_err-add_written-3.result _ c.from_residual-in_err-add_written-3.ensures.0

pub returns-in_err-add_relinked : goal.returns-in_err-add_relinked
returns-in_err-add_relinked g c = IfOk-from_err c.from_residual-in_err-add_relinked.result _ c.from_residual-in_err-add_relinked.ensures.0
