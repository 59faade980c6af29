use Rattle.std.proofs.Common.{◌≡◌, ◌≤◌, length, map, take, get_or, false}
use Rattle.qm_bits.specs.Bitmaps.{all_bits}
use Rattle.qm_overlay.specs.Layers.{layered}
use Rattle.qm_overlay.proofs.batch.bit_behind.Given as goal

abbrev pub invariant-loop-left : goal.invariant-loop-left
invariant-loop-left g l = record {
  within : l.left ≤ length l.layers;
  same : get_or (all_bits g.N.Chunks.LEN (layered g.N.Chunks.LEN (take l.left (map (λ r. r.value) l.layers)) l.base)) l.at false ≡ get_or (all_bits g.N.Chunks.LEN (layered g.N.Chunks.LEN (map (λ r. r.value) l.layers) l.base)) l.at false;
}

abbrev pub decreases-loop-left : goal.decreases-loop-left
decreases-loop-left g l = l.left
