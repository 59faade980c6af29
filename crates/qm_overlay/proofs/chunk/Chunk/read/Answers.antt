use Rattle.std.proofs.Common.{◌∙◌, ◌*◌, ap, sym, subst, get_or, false}
use Rattle.qm_bits.specs.Bitmaps.{all_bits}
use Rattle.std.proofs.Common.{drop}
use Rattle.qm_overlay.specs.Layers.{IsWhole}
use Rattle.qm_overlay.proofs.Bytes.{packed_whole, chunk_bits}
use Rattle.qm_overlay.proofs.chunk.Chunk.read.Goals as goal

pub of-requires : goal.of-requires
of-requires g c = subst (IsWhole g.N.Chunks.LEN) (sym c.in_ok-chunk_of.ensures) (packed_whole g.N.Chunks.LEN (drop (c.args.at * (8 * g.N.Chunks.LEN)) (all_bits g.N.Chunks.LEN (g.B.Readable.bitmap c.args.base.now))))

pub returns : goal.returns
returns g c = λ i lt.
    ap (λ bits. get_or bits i false) c.of.ensures
    ∙ chunk_bits g.N.Chunks.LEN c.in_ok-chunk_of.field-0.items (all_bits g.N.Chunks.LEN (g.B.Readable.bitmap c.args.base.now)) c.args.at c.in_ok-chunk_of.ensures i lt
