use Rattle.std.proofs.Common.{◌≡◌, ◌++◌, map}
use Rattle.qm_step.specs.Moves.{touch_naming}
use Rattle.qm_step.specs.OrderedViews.{ordered_touches}
use Rattle.qm_step.specs.PlanViews.{decided_views}
use Rattle.qm_step.proofs.moves.with_moves.Given as goal

abbrev pub invariant-loop-one : goal.invariant-loop-one
invariant-loop-one g l =
    let key = g.K.ByteString.bytes in
    let value = g.V.Value.ByteString.bytes in
    ordered_touches key value l.touches.items ≡ ordered_touches key value l.initial.touches.items ++ map (λ d. touch_naming d.next d) (decided_views key value l.yielded)
