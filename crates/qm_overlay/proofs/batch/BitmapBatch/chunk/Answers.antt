use Rattle.std.proofs.Common.{◌≤◌, ◌∙◌, ap, sym, subst, map}
use Rattle.qm_overlay.specs.Layers.{seen}
use Rattle.qm_overlay.proofs.Stacks.{pruned-layered}
use Rattle.qm_overlay.proofs.batch.BitmapBatch.chunk.Goals as goal

pub chunk_over-requires-clause-kept : goal.chunk_over-requires-clause-kept
chunk_over-requires-clause-kept g c =
    subst (λ n. n ≤ c.args.at) (sym (sym (pruned-layered g.N.Chunks.LEN (map (λ r. r.value) c.self.inside.layers.items) c.self.inside.base.now) ∙ ap (λ m. (seen g.N.Chunks.LEN m).pruned) c.self.view_is)) c.requires
