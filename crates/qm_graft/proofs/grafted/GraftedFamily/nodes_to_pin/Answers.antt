use Rattle.std.proofs.Common.{◌∙◌, ◌++◌, ◌∷◌, [], ap, ap₂, sym}
use Rattle.std.proofs.lemmas.List.{take_all, take_more}
use Rattle.std.proofs.lemmas.Result.{IfOk-from_err}
use Rattle.qm_model.specs.Trees.{peak_positions}
use Rattle.qm_graft.proofs.grafted.GraftedFamily.nodes_to_pin.Goals as goal

pub loop-place-init : goal.loop-place-init
loop-place-init g c = c.in_ok-found.ensures.items

pub loop-place-preserved : goal.loop-place-preserved
loop-place-preserved g c =
    let one = c.new-in-loop-place.ensures ∙ c.get-in-loop-place.ensures ∙ c.place-item.is in
    c.in_ok-push.ensures.items ∙ ap₂ (λ l p. l ++ p ∷ []) c.loop-place.invariant one
    ∙ sym (take_more c.deref-place-items.result.now c.loop-place.place-index c.place-item.result c.loop-place-test.true)

pub returns-in_err-places : goal.returns-in_err-places
returns-in_err-places g c = IfOk-from_err c.from_residual.result _ c.from_residual.ensures.0

pub returns-in_err-found : goal.returns-in_err-found
returns-in_err-found g c = IfOk-from_err c.from_residual-in_err-found.result _ c.from_residual-in_err-found.ensures.0

pub returns-in_err-push : goal.returns-in_err-push
returns-in_err-push g c = IfOk-from_err c.from_residual-in_err-push.result _ c.from_residual-in_err-push.ensures.0

pub returns : goal.returns
returns g c =
    c.loop-place.invariant ∙ take_all c.loop-place.place-index c.deref-place-items.result.now c.loop-place-test.false ∙ c.deref-place-items.ensures.value
    ∙ c.in_ok-places.ensures ∙ ap (peak_positions g.F.Family.shape) (c.new.ensures ∙ c.get.ensures)
