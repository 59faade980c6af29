use Rattle.std.proofs.Common.{◌≡◌, ◌++◌, map, take}
use Rattle.qm_step.specs.Links.{keys_in, of_kind, touch_of}
use Rattle.qm_step.specs.OrderedViews.{ordered_touches}
use Rattle.qm_step.specs.PlanViews.{linked_view}
use Rattle.qm_step.proofs.links.add_written.Given as goal

abbrev pub invariant-loop-written : goal.invariant-loop-written
invariant-loop-written g l =
    let key = g.K.ByteString.bytes in
    let value = g.V.Value.ByteString.bytes in
    ordered_touches key value l.touches.items ≡ ordered_touches key value l.initial.touches.items ++ map (touch_of (keys_in l.afters.entries)) (of_kind l.kind (map (linked_view key value) (take l.written-index l.linked)))
