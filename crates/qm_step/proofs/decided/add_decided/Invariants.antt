use Rattle.std.proofs.Common.{◌≡◌, ◌++◌, map}
use Rattle.qm_step.specs.Going.{touch_for}
use Rattle.qm_step.specs.PlanViews.{decided_views, unordered_touches}
use Rattle.qm_step.proofs.decided.add_decided.Given as goal

abbrev pub invariant-loop-one : goal.invariant-loop-one
invariant-loop-one g l =
    let key = g.K.ByteString.bytes in
    let value = g.V.Value.ByteString.bytes in
    unordered_touches key value l.touches.items ≡ unordered_touches key value l.initial.touches.items ++ map touch_for (decided_views key value l.yielded)
