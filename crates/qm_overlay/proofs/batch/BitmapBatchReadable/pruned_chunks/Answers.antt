use Rattle.std.proofs.Common.{◌∙◌, ap, sym, map}
use Rattle.qm_overlay.specs.Layers.{seen}
use Rattle.qm_overlay.proofs.Stacks.{pruned-layered}
use Rattle.qm_overlay.proofs.batch.BitmapBatchReadable.pruned_chunks.Goals as goal

pub returns : goal.returns
returns g c = c.pruned_chunks.ensures ∙ sym (pruned-layered g.N.Chunks.LEN (map (λ r. r.value) c.self.inside.layers.items) c.self.inside.base.now) ∙ ap (λ m. (seen g.N.Chunks.LEN m).pruned) c.self.view_is
