use Rattle.std.proofs.Common.{◌≡◌, ◌++◌, length, map}
use Rattle.std.specs.Vec.{vec_capacity}
use Rattle.qm_step.specs.PlanViews.{unordered_view}
use Rattle.qm_step.specs.PlanViews.{unordered_touch}
use Rattle.qm_step.specs.Touches.{moved_touch}
use Rattle.qm_step.proofs.writes.moved_touches.Given as goal

abbrev pub invariant-loop-at : goal.invariant-loop-at
invariant-loop-at g l =
    let key = g.K.ByteString.bytes in
    let value = g.V.Value.ByteString.bytes in record {
      touches : map (unordered_touch key value) l.touches.items ++ map (λ e. moved_touch (e.0, unordered_view key value e.1)) l.at-iterator
          ≡ map (λ e. moved_touch (e.0, unordered_view key value e.1)) l.fn.rewrites.entries;
      room : vec_capacity l.touches ≡ length l.fn.rewrites.entries;
    }
