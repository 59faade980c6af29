use Rattle.std.proofs.Common.{◌≡◌, ◌≤◌, take, count_by}
use Rattle.qm_operations.specs.Parts as parts
use Rattle.qm_operations.specs.Views.{operation_view}
use Rattle.qm_batch.proofs.plan.updated.Given as goal

abbrev pub invariant-loop-touch : goal.invariant-loop-touch
invariant-loop-touch g l = (l.count ≡ count_by (λ t. parts.is_update (operation_view g.U.Update.view g.U.Key.ByteString.bytes g.U.Value.ByteString.bytes t.operation)) (take l.touch-index l.touches)) × (l.count ≤ l.touch-index)
