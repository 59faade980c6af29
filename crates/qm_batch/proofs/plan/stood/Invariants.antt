use Rattle.std.proofs.Common.{◌≡◌, ◌≤◌, take, count_by}
use Rattle.std.specs.Prelude.{is_some}
use Rattle.qm_batch.proofs.plan.stood.Given as goal

abbrev pub invariant-loop-touch : goal.invariant-loop-touch
invariant-loop-touch g l = (l.count ≡ count_by (λ t. is_some t.before) (take l.touch-index l.touches)) × (l.count ≤ l.touch-index)
