use Rattle.std.proofs.lemmas.Result.{IfOk-weaker}
use Rattle.qm_step.specs.PlanViews.{touch_views, noted_view}
use Rattle.qm_step.specs.Touches.{operations_of}
use Rattle.qm_step.proofs.PlanDiffs.{listed-changes}
use Rattle.qm_step.proofs.diff.diff_of_touches.Goals as goal

pub returns : goal.returns
returns g c = IfOk-weaker c.diff_of.result _ _ (λ diff is base size from.
    let key = g.U.Key.ByteString.bytes in
    let value = g.U.Value.ByteString.bytes in
    listed-changes (noted_view value) c.in_ok-notes.notes.entries _ base (operations_of (touch_views g.U.Update.view key value c.args.touches.now)) is (c.in_ok-notes.ensures.noted base size from)) c.diff_of.ensures
