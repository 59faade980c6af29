use Rattle.std.proofs.Common.{◌≡◌, ◌≤◌, map, drop, length}
use Rattle.std.specs.Vec.{vec_capacity}
use Rattle.qm_merkle.specs.Batches.{layers_since}
use Rattle.qm_merkle.proofs.Putting.{ArePut}
use Rattle.qm_merkle.proofs.batch.MerkleizedBatch.put.Given as goal

abbrev pub invariant-loop-count : goal.invariant-loop-count
invariant-loop-count g l = record {
  within : l.count ≤ length (layers_since l.fn.leaves (map (λ r. r.value) l.self-inside.older.items));
  put : ArePut g.F.Family.shape l.fn.leaves l.positions l.size l.initial.pins l.initial.nodes.items (drop l.count (layers_since l.fn.leaves (map (λ r. r.value) l.self-inside.older.items))) l.pins l.nodes.items;
  capacity : vec_capacity l.nodes ≡ vec_capacity l.initial.nodes;
}

abbrev pub decreases-loop-count : goal.decreases-loop-count
decreases-loop-count g l = l.count
