use Rattle.std.proofs.Common.{◌≡◌, ◌-◌, ◌≤◌, ◌++◌, map}
use Rattle.qm_bits.specs.Bitmaps.{all_bits}
use Rattle.qm_merkle.specs.Batches.{leaves_of}
use Rattle.qm_merkle.specs.Mems.{more}
use Rattle.qm_graft.specs.Grafting.{made_values}
use Rattle.qm_graft.proofs.tree.add_all.Given as goal

abbrev pub invariant-loop-at : goal.invariant-loop-at
invariant-loop-at g l = record {
  same : (l.draft.start ≡ l.fn.draft.start) × (l.draft.base ≡ l.fn.draft.base) × (l.draft.layers ≡ l.fn.draft.layers) × (l.draft.replaced ≡ l.fn.draft.replaced);
  from : leaves_of l.fn.draft ≤ l.at;
  here : l.at ≡ leaves_of l.draft;
  added : map g.H.Digest.Digest.bytes l.draft.added ≡ map g.H.Digest.Digest.bytes l.fn.draft.added
      ++ made_values g.H.Digest.Digest.bytes g.H.Hasher.hash (g.O.Nodes.node_at l.behind.operations.now) g.F.Family.shape g.N.Chunks.LEN (all_bits g.N.Chunks.LEN (g.B.Readable.bitmap l.behind.bits.now)) (leaves_of l.fn.draft) (l.at - leaves_of l.fn.draft);
  made : l.hasher ≡ more l.fn.hasher (l.at - leaves_of l.fn.draft);
}
