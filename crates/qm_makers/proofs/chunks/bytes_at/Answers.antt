use Rattle.std.proofs.Common.{◌∙◌, ◌*◌, arith, ap}
use Rattle.qm_model.specs.Bits.{chunk}
use Rattle.qm_model.proofs.RangeProving.{quotient_most}
use Rattle.qm_bits.specs.Bitmaps.{all_bits, bit_count}
use Rattle.qm_makers.proofs.chunks.bytes_at.Goals as goal

pub returns : goal.returns
returns g c =
    let size = g.N.Chunks.LEN in
    let least = g.met.N.Chunks.least in
    let most = quotient_most (bit_count size c.args.bits.now) (8 * size) c.args.at (omega (arith, least)) (omega (arith, c.requires.begun)) in
    c.in_ok-bytes.ensures.bytes ∙ ap (chunk size (all_bits size c.args.bits.now)) (omega (arith, most, c.if-at-complete_chunks.false, c.complete_chunks.ensures))
