use Rattle.std.proofs.Common.{◌≡◌, length}
use Rattle.std.specs.Vec.{vec_capacity}
use Rattle.qm_merkle.proofs.Rows.{Taken}
use Rattle.qm_merkle.proofs.batch.UnmerkleizedBatch.replaced_leaves.Given as goal

abbrev pub invariant-loop-location : goal.invariant-loop-location
invariant-loop-location g l = record {
  taken : Taken g.F.Family.shape l.self.replaced l.location-iterator l.nodes.entries l.row.items;
  room : vec_capacity l.row ≡ length l.self.replaced;
}
