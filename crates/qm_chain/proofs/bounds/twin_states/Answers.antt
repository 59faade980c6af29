use Rattle.std.proofs.Common.{◌∙◌, ◌++◌, ◌∷◌, [], ap₂, sym}
use Rattle.std.proofs.lemmas.List.{take_all, take_more}
use Rattle.std.proofs.lemmas.Result.{IfOk-from_err}
use Rattle.qm_chain.proofs.bounds.twin_states.Goals as goal

pub loop-state-init : goal.loop-state-init
loop-state-init g c = c.new-copy.ensures.items

pub loop-state-preserved : goal.loop-state-preserved
loop-state-preserved g c =
    c.in_ok-push.ensures.items ∙ ap₂ (λ l s. l ++ s ∷ []) c.loop-state.invariant c.state-item.is
    ∙ sym (take_more c.args.states.now c.loop-state.state-index c.state-item.result c.loop-state-test.true)

pub returns-in_err-push : goal.returns-in_err-push
returns-in_err-push g c = IfOk-from_err c.from_residual.result _ c.from_residual.ensures.0

pub returns : goal.returns
returns g c = c.loop-state.invariant ∙ take_all c.loop-state.state-index c.args.states.now c.loop-state-test.false
