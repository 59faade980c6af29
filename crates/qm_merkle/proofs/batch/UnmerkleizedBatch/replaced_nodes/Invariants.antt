use Rattle.std.proofs.Common.{◌≡◌, ◌-◌, ◌*◌, ◌^◌, ◌<◌, ◌≤◌, ℕ, suc, List, length}
use Rattle.std.specs.Prelude.{min}
use Rattle.qm_model.specs.Operations.{Bytes}
use Rattle.qm_merkle.specs.Batches.{replaced_from, AreRead, AreRight, AreOver, IsRow}
use Rattle.qm_merkle.specs.Mems.{more}
use Rattle.qm_merkle.proofs.batch.UnmerkleizedBatch.replaced_nodes.Given as goal

abbrev pub invariant-loop-height : goal.invariant-loop-height
invariant-loop-height g l = record {
  own : AreOver g.F.Family.shape l.self.replaced l.self.base (l.height - 1) l.nodes.entries;
  row : IsRow g.F.Family.shape l.self.base (l.height - 1) l.nodes.entries l.row.items;
  right : (list : List Bytes) → length list ≡ l.self.base → AreRead g.F.Family.shape g.D.Digest.bytes g.H.Hasher.hash l.self.layers l.mem list →
      AreRight g.F.Family.shape g.D.Digest.bytes g.H.Hasher.hash l.nodes.entries (replaced_from g.D.Digest.bytes l.self.replaced 0 list);
  count : length l.self.replaced ≤ length l.nodes.entries;
  rows : length l.row.items ≤ length l.self.replaced;
  few : (k : ℕ) → l.self.base < 2 ^ suc k → length l.nodes.entries ≤ length l.self.replaced * min (suc k) l.height;
  made : l.hasher ≡ more l.fn.hasher (length l.nodes.entries - length l.self.replaced);
}
