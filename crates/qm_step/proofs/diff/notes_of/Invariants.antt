use Rattle.std.proofs.Common.{◌≡◌, ◌++◌, true, List, length, take, All}
use Rattle.qm_model.specs.Operations.{Operation}
use Rattle.qm_step.specs.PlanViews.{touch_views, IsNoted}
use Rattle.qm_step.specs.Touches.{IsFrom, operations_of}
use Rattle.qm_step.proofs.diff.notes_of.Given as goal

abbrev pub invariant-loop-i : goal.invariant-loop-i
invariant-loop-i g l =
    let views = touch_views g.U.Update.view g.U.Key.ByteString.bytes g.U.Value.ByteString.bytes in
    record {
      noted : (base : List Operation) → l.size ≡ length base → All (IsFrom base) (views l.touches) → IsNoted g.U.Value.ByteString.bytes l.notes base (base ++ operations_of (views (take l.i l.touches)));
      known : All (λ e. g.U.Key.ByteString.has e.0.now ≡ true) l.notes.entries;
    }
