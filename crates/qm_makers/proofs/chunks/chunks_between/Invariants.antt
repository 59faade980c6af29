use Rattle.std.proofs.Common.{◌≡◌, ◌-◌, ◌/◌, ◌^◌}
use Rattle.qm_model.specs.Bits.{chunk}
use Rattle.qm_model.specs.RangeProofs.{chunks_from}
use Rattle.qm_bits.specs.Bitmaps.{all_bits}
use Rattle.qm_graft.specs.Grafting.{grafting}
use Rattle.qm_keyproofs.specs.Views.{chunk_views}
use Rattle.qm_makers.proofs.chunks.chunks_between.Given as goal

abbrev pub invariant-chunks : goal.invariant-chunks
invariant-chunks g l = chunk_views l.chunks.items ≡ chunks_from (chunk g.N.Chunks.LEN (all_bits g.N.Chunks.LEN l.bits)) (l.start / 2 ^ grafting g.N.Chunks.LEN) (l.at - l.start / 2 ^ grafting g.N.Chunks.LEN)
