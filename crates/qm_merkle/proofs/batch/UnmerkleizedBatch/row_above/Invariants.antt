use Rattle.std.proofs.Common.{◌≡◌, ◌<◌, ◌≤◌, ◌+◌, ◌-◌, ◌^◌, List, length}
use Rattle.std.specs.Vec.{vec_capacity}
use Rattle.qm_model.specs.Operations.{Bytes}
use Rattle.qm_merkle.specs.Batches.{replaced_from, AreRead, AreRight}
use Rattle.qm_merkle.specs.Mems.{more}
use Rattle.qm_merkle.proofs.Rows.{Raised}
use Rattle.qm_merkle.proofs.batch.UnmerkleizedBatch.row_above.Given as goal

abbrev pub invariant-loop-index : goal.invariant-loop-index
invariant-loop-index g l = record {
  raised : Raised g.F.Family.shape l.self.replaced l.self.base l.height l.fn.nodes.entries l.row l.index-index l.nodes.entries l.above.items;
  right : (list : List Bytes) → length list ≡ l.self.base → AreRead g.F.Family.shape g.D.Digest.bytes g.H.Hasher.hash l.self.layers l.mem list →
      AreRight g.F.Family.shape g.D.Digest.bytes g.H.Hasher.hash l.fn.nodes.entries (replaced_from g.D.Digest.bytes l.self.replaced 0 list) →
      AreRight g.F.Family.shape g.D.Digest.bytes g.H.Hasher.hash l.nodes.entries (replaced_from g.D.Digest.bytes l.self.replaced 0 list);
  count : length l.nodes.entries ≡ length l.fn.nodes.entries + length l.above.items;
  fewer : length l.above.items ≤ l.index-index;
  room : vec_capacity l.above ≡ length l.row;
  none : l.self.base < 2 ^ l.height → length l.above.items ≡ 0;
  made : l.hasher ≡ more l.fn.hasher (length l.nodes.entries - length l.fn.nodes.entries);
}
