use Rattle.std.proofs.Common.{◌∙◌, [], ap, map}
use Rattle.std.proofs.lemmas.List.{take_all}
use Rattle.std.proofs.lemmas.Result.{IfOk-from_err}
use Rattle.qm_step.specs.Layers.{Layer}
use Rattle.qm_step.specs.Views.{changes_view}
use Rattle.qm_any.proofs.Unapplied.{mapped-behind}
use Rattle.qm_any.proofs.operations.diffs_of.Goals as goal

pub loop-step-init : goal.loop-step-init
loop-step-init g c = ap (map (λ d. changes_view g.U.Key.ByteString.bytes g.U.Value.ByteString.bytes d.value)) c.new-diffs.ensures.items

pub loop-step-preserved : goal.loop-step-preserved
loop-step-preserved g c =
    let diff = c.in_ok-diff.diff in
    mapped-behind (λ (l : Layer). l.changes) (λ s. s.value) (λ d. changes_view g.U.Key.ByteString.bytes g.U.Value.ByteString.bytes d.value) [] c.args.steps.now c.loop-step.step-index c.step-item.result
    c.loop-step.diffs.items c.push.new.self.items diff c.loop-step-test.true c.step-item.is c.in_ok-push.ensures.items (cc (c.in_ok-diff.ensures.cases, c.diff.ensures, c.deref.ensures)) c.loop-step.invariant

pub returns : goal.returns
returns g c = c.loop-step.invariant ∙ ap (λ xs. map (λ (l : Layer). l.changes) (map (λ s. s.value) xs)) (take_all c.loop-step.step-index c.args.steps.now c.loop-step-test.false)

pub returns-in_err-diff : goal.returns-in_err-diff
returns-in_err-diff g c = IfOk-from_err c.from_residual.result _ c.from_residual.ensures.0

pub returns-in_err-push : goal.returns-in_err-push
returns-in_err-push g c = IfOk-from_err c.from_residual-in_err-push.result _ c.from_residual-in_err-push.ensures.0
