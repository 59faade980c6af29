use Rattle.std.proofs.Common.{◌≡◌, ◌∙◌, ◌*◌, ◌/◌, ap, sym, set, length, get_or, arith, rules}
use Rattle.std.specs.Int.{bit_at}
use Rattle.std.proofs.lemmas.List.{get_or_read}
use Rattle.qm_overlay.proofs.Bytes.{put_bits, length-bits_in}
use Rattle.qm_overlay.proofs.chunk.Chunk.put.Goals as goal

pub returns : goal.returns
returns g c = record {
  bits =
      let byte : c.index.result.now ≡ get_or c.self.inside.bytes.items (c.args.at / 8) 0 = get_or_read c.self.inside.bytes.items (c.args.at / 8) c.index.result.now (omega (arith, c.requires, c.self.invariant.long)) (search rules) 0 in
      put_bits g.N.Chunks.LEN c.self.inside.bytes.items c.self.invariant c.args.at c.with_bit.result c.args.value c.requires c.with_bit.ensures.here (λ i low apart. c.with_bit.ensures.others i low apart ∙ ap (λ w. bit_at w i) byte)
      ∙ ap (λ bits. set bits c.args.at c.args.value) c.self.view_is;
  long = ap length (sym c.self.view_is) ∙ length-bits_in (8 * g.N.Chunks.LEN) c.self.inside.bytes.items;
}
