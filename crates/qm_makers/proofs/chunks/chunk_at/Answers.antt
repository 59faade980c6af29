use Rattle.std.proofs.Common.{◌∙◌, ◌*◌, ap, length, drop}
use Rattle.qm_model.proofs.BitLemmas.{length-packed}
use Rattle.qm_bits.specs.Bitmaps.{all_bits}
use Rattle.qm_makers.proofs.chunks.chunk_at.Goals as goal

pub unwrap-requires : goal.unwrap-requires
unwrap-requires g c =
    let size = g.N.Chunks.LEN in
    c.new.ensures.some.1 (ap length c.in_ok-bytes.ensures ∙ length-packed size (drop (c.args.at * (8 * size)) (all_bits size c.args.bits.now)))
