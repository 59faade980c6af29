use Rattle.std.proofs.Common.{take}
use Rattle.qm_step.specs.PlanViews.{touch_views}
use Rattle.qm_step.specs.Touches.{AreReplaced}
use Rattle.qm_step.proofs.touch.replaced_by.Given as goal

abbrev pub invariant-loop-touch : goal.invariant-loop-touch
invariant-loop-touch g l = AreReplaced l.replaced (touch_views g.U.Update.view g.U.Key.ByteString.bytes g.U.Value.ByteString.bytes (take l.touch-index l.touches))
