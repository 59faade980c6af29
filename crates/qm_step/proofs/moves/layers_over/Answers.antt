use Rattle.std.proofs.Common.{◌∙◌, ◌++◌, ap, sym, subst}
use Rattle.std.proofs.lemmas.Result.{IfOk-weaker}
use Rattle.qm_operations.specs.Views.{operation_view, operation_views}
use Rattle.qm_step.specs.Changes.{AreChanges}
use Rattle.qm_step.specs.Layers.{Layer, LeadOver}
use Rattle.qm_step.specs.PlanViews.{touch_view, touch_views}
use Rattle.qm_step.specs.Touches.{Touch, operations_of}
use Rattle.qm_step.specs.Views.{changes_view}
use Rattle.qm_step.proofs.MovesLoops.{lead-more}
use Rattle.qm_step.proofs.Steps.{map-twice}
use Rattle.qm_step.proofs.moves.layers_over.Goals as goal

pub returns : goal.returns
returns g c = IfOk-weaker c.layered.result _ _ (λ all are lent list is from.
    let key = g.U.Key.ByteString.bytes in
    let value = g.U.Value.ByteString.bytes in
    let made = touch_views g.U.Update.view key value c.args.made.now in
    let newest = c.new-newest.ensures in
    let operations =
    ap (operation_views g.U.Update.view key value) c.in_ok-operations.ensures ∙ map-twice (operation_view g.U.Update.view key value) (λ t. t.operation) c.args.made.now
    ∙ sym (map-twice (λ (t : Touch). t.operation) (touch_view g.U.Update.view key value) c.args.made.now) in
    let changes = subst (λ cs. AreChanges cs list (list ++ operations_of made)) (sym (ap (λ (l : Layer). l.changes) newest ∙ ap (changes_view key value) c.in_ok-new.ensures.ok)) (c.in_ok-diff.ensures list is.size from) in
    subst (λ layers. LeadOver layers lent (list ++ operations_of made)) (sym are)
    (lead-more _ lent list (operations_of made) c.new-newest.result (ap (λ (l : Layer). l.base) newest ∙ is.size) (ap (λ (l : Layer). l.operations) newest ∙ operations) changes is.leads)) c.layered.ensures
