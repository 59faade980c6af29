use Rattle.qm_overlay.proofs.Puts.{one_written}
use Rattle.std.proofs.Common.{◌*◌, ◌/◌, ◌%◌, ◌∙◌, ap, sym, subst, get_or, false}
use Rattle.qm_bits.specs.Bitmaps.{all_bits}
use Rattle.qm_overlay.specs.Layers.{IsClearBehind, bit_over, changed_at}
use Rattle.qm_overlay.proofs.overlay.ChunkOverlay.write_into.Goals as goal

pub loop-at-preserved : goal.loop-at-preserved
loop-at-preserved g c =
    one_written g.N.Chunks.LEN c.in-Some.at.now c.in-Some.chunk.now c.args.self.now.changed c.loop-at.at-iterator c.next.new.self c.args.bits.now c.loop-at.bits c.write_chunk.new.bits
    c.loop-at.invariant c.in-Some.ensures.steps c.write_chunk.ensures.pruned c.write_chunk.ensures.count c.write_chunk.ensures.here c.write_chunk.ensures.other

pub returns : goal.returns
returns g c = record {
  pruned = c.loop-at.invariant.pruned;
  count = c.loop-at.invariant.count;
  bits = λ i from lt.
      let size = g.N.Chunks.LEN in
      ap (λ cs. bit_over (changed_at cs (i / (8 * size))) (i % (8 * size)) (get_or (all_bits size c.loop-at.bits) i false)) (sym c.in-None.ensures.steps.0) ∙ c.loop-at.invariant.each i from lt;
  clear = subst (IsClearBehind g.N.Chunks.LEN) c.self.view_is c.self.invariant.0;
}
