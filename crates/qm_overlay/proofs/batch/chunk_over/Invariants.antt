use Rattle.std.proofs.Common.{◌≡◌, ◌≤◌, length, map, take}
use Rattle.qm_model.specs.Bits.{chunk}
use Rattle.qm_bits.specs.Bitmaps.{all_bits}
use Rattle.qm_overlay.specs.Layers.{layered}
use Rattle.qm_overlay.proofs.batch.chunk_over.Given as goal

abbrev pub invariant-loop-left : goal.invariant-loop-left
invariant-loop-left g l = record {
  within : l.left ≤ length l.layers;
  same : chunk g.N.Chunks.LEN (all_bits g.N.Chunks.LEN (layered g.N.Chunks.LEN (take l.left (map (λ r. r.value) l.layers)) l.base)) l.at ≡ chunk g.N.Chunks.LEN (all_bits g.N.Chunks.LEN (layered g.N.Chunks.LEN (map (λ r. r.value) l.layers) l.base)) l.at;
}

abbrev pub decreases-loop-left : goal.decreases-loop-left
decreases-loop-left g l = l.left
