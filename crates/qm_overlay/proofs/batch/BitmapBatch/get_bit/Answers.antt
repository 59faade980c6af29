use Rattle.std.proofs.Common.{◌≤◌, ◌*◌, ◌∙◌, ap, sym, subst, map}
use Rattle.qm_overlay.specs.Layers.{seen}
use Rattle.qm_overlay.proofs.Stacks.{pruned-layered}
use Rattle.qm_overlay.proofs.batch.BitmapBatch.get_bit.Goals as goal

pub bit_behind-requires-clause-kept : goal.bit_behind-requires-clause-kept
bit_behind-requires-clause-kept g c =
    subst (λ n. n * (8 * g.N.Chunks.LEN) ≤ c.args.at) (sym (sym (pruned-layered g.N.Chunks.LEN (map (λ r. r.value) c.self.inside.layers.items) c.self.inside.base.now) ∙ ap (λ m. (seen g.N.Chunks.LEN m).pruned) c.self.view_is)) c.requires.kept
