use Rattle.std.proofs.Common.{◌≡◌, ◌+◌, ◌≤◌, ℕ, List, length, take, All}
use Rattle.qm_model.specs.Operations.{Bytes}
use Rattle.qm_bits.specs.Bitmaps.{all_bits}
use Rattle.qm_merkle.specs.Batches.{drafted}
use Rattle.qm_merkle.specs.Mems.{more}
use Rattle.qm_graft.specs.Grafting.{made_value, IsRedrafted, AreMade}
use Rattle.qm_graft.proofs.tree.update_all.Given as goal

abbrev pub invariant-loop-at : goal.invariant-loop-at
invariant-loop-at g l = record {
  same : IsRedrafted l.fn.draft l.draft;
  few : length l.draft.replaced ≤ length l.fn.draft.replaced + l.at-index;
  above : (least : ℕ) → All (λ e. least ≤ e.0) l.fn.draft.replaced → All (λ c. least ≤ c) l.changed → All (λ e. least ≤ e.0) l.draft.replaced;
  values : (values : List Bytes) → length values ≡ l.fn.draft.base →
      AreMade (made_value g.H.Digest.Digest.bytes g.H.Hasher.hash (g.O.Nodes.node_at l.behind.operations.now) g.F.Family.shape g.N.Chunks.LEN (all_bits g.N.Chunks.LEN (g.B.Readable.bitmap l.behind.bits.now)))
      (take l.at-index l.changed) (drafted g.H.Digest.Digest.bytes l.fn.draft values) (drafted g.H.Digest.Digest.bytes l.draft values);
  made : (n : ℕ) × (n ≤ l.at-index) × (l.hasher ≡ more l.fn.hasher n);
}
