use Rattle.std.proofs.Common.{◌≡◌, Some, length, map, take}
use Rattle.std.specs.Vec.{vec_capacity}
use Rattle.qm_merkle.specs.Batches.{made_at}
use Rattle.qm_merkle.proofs.batch.UnmerkleizedBatch.digests.Given as goal

abbrev pub invariant-loop-position : goal.invariant-loop-position
invariant-loop-position g l = record {
  found : map Some l.found.items ≡ map (made_at g.F.Family.shape l.nodes.entries l.self.layers l.mem) (take l.position-index l.positions);
  count : length l.found.items ≡ l.position-index;
  room : vec_capacity l.found ≡ length l.positions;
}
