use Rattle.std.proofs.Common.{◌≡◌, ◌∙◌, ◌-◌, suc, ap, sym, length, arith}
use Rattle.qm_bits.specs.Bitmaps.{bit_count}
use Rattle.qm_overlay.specs.Layers.{seen}
use Rattle.qm_overlay.proofs.Stacks.{count_last}
use Rattle.qm_overlay.proofs.batch.BitmapBatchReadable.len.Goals as goal

pub returns : goal.returns
returns g c =
    let last : suc (c.len-count.result - 1) ≡ length c.self.inside.layers.items = omega (arith, c.len-count.ensures, c.if-count-eq0.false) in
    c.len-2.ensures.value ∙ ap (λ o. o.count) c.deref.ensures
    ∙ sym (count_last (λ r. r.value) g.N.Chunks.LEN c.self.inside.layers.items c.self.inside.base.now (c.len-count.result - 1) c.index.result.now c.self.invariant (omega (arith, last)) c.index.ensures last)
    ∙ ap (λ m. bit_count g.N.Chunks.LEN (seen g.N.Chunks.LEN m)) c.self.view_is
