use Rattle.std.proofs.Common.{◌≡◌, length, map, take}
use Rattle.std.specs.Vec.{vec_capacity}
use Rattle.qm_step.proofs.moves.twin_operations.Given as goal

abbrev pub invariant-loop-touch : goal.invariant-loop-touch
invariant-loop-touch g l = record {
  operations : l.operations.items ≡ map (λ t. t.operation) (take l.touch-index l.touches);
  count : length l.operations.items ≡ l.touch-index;
  room : vec_capacity l.operations ≡ length l.touches;
}
