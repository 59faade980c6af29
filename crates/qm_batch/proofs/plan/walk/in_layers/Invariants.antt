use Rattle.std.proofs.Common.{◌≡◌, map, drop}
use Rattle.qm_batch.proofs.PlanFinds.{found_in}
use Rattle.qm_batch.proofs.plan.walk.in_layers.Given as goal

abbrev pub invariant-loop-layer : goal.invariant-loop-layer
invariant-loop-layer g l = found_in (map (λ l. l.value) (drop l.layer-index l.layers)) l.at ≡ found_in (map (λ l. l.value) l.layers) l.at
