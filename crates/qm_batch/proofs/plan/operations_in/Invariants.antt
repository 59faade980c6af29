use Rattle.std.proofs.Common.{◌≡◌, ◌+◌, length, map}
use Rattle.std.specs.Vec.{vec_capacity}
use Rattle.qm_batch.proofs.plan.operations_in.Given as goal

abbrev pub invariant-loop-touch : goal.invariant-loop-touch
invariant-loop-touch g l = record {
  operations : l.operations.items ≡ map (λ t. t.operation) l.yielded;
  count : length l.operations.items + l.touch-iterator.rest.len ≡ length l.fn.touches.items;
  room : vec_capacity l.operations ≡ length l.fn.touches.items + 1;
}
