use Rattle.std.proofs.Common.{◌≡◌, take, map}
use Rattle.qm_step.specs.Views.{changes_view}
use Rattle.qm_any.proofs.operations.diffs_of.Given as goal

abbrev pub invariant-loop-step : goal.invariant-loop-step
invariant-loop-step g l =
    map (λ d. changes_view g.U.Key.ByteString.bytes g.U.Value.ByteString.bytes d.value) l.diffs.items ≡ map (λ s. s.changes) (map (λ s. s.value) (take l.step-index l.steps))
