use Rattle.std.proofs.Common.{map, take}
use Rattle.qm_bits.specs.Bitmaps.{bit_count}
use Rattle.qm_overlay.specs.Layers.{layered}
use Rattle.qm_overlay.proofs.Applying.{AreApplied}
use Rattle.qm_overlay.proofs.apply.commit.Given as goal

abbrev pub invariant-loop-layer : goal.invariant-loop-layer
invariant-loop-layer g l = AreApplied g.N.Chunks.LEN l.fn.bits (take l.layer-index (map (λ r. r.value) l.layers)) (bit_count g.N.Chunks.LEN (layered g.N.Chunks.LEN (map (λ r. r.value) l.layers) l.fn.bits)) l.bits
