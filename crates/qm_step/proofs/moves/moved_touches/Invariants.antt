use Rattle.std.proofs.Common.{◌≡◌, length, map, take}
use Rattle.std.specs.Vec.{vec_capacity}
use Rattle.qm_model.specs.Keys.{successor}
use Rattle.qm_step.specs.Moves.{touch_naming}
use Rattle.qm_step.specs.OrderedViews.{ordered_touch}
use Rattle.qm_step.specs.PlanViews.{decided_view}
use Rattle.qm_step.proofs.moves.moved_touches.Given as goal

abbrev pub invariant-loop-one : goal.invariant-loop-one
invariant-loop-one g l =
    let key = g.K.ByteString.bytes in
    let value = g.V.Value.ByteString.bytes in record {
      touches : map (ordered_touch key value) l.touches.items ≡ map (λ d. touch_naming (successor (map (λ e. e.0.now) l.keys.entries) (key d.key)) (decided_view key value d)) (take l.one-index l.decided);
      count : length l.touches.items ≡ l.one-index;
      room : vec_capacity l.touches ≡ length l.decided;
    }
