use Rattle.std.proofs.Common.{◌∙◌, ◌≤◌, ◌<◌, ⊎_elim, ap, sym}
use Rattle.std.proofs.lemmas.Bool.{cases_lt}
use Rattle.qm_bits.specs.Bitmaps.{start, all_bits}
use Rattle.qm_overlay.specs.Layers.{laid}
use Rattle.qm_overlay.proofs.Laying.{clear_pruned, on_ok}
use Rattle.qm_overlay.proofs.overlay.ChunkOverlay.clear_bit.Goals as goal

pub returns-clause-bits : goal.returns-clause-bits
returns-clause-bits g c =
    let base = g.B.Readable.bitmap c.args.base.now in
    ⊎_elim
    (λ (low : c.args.at < start g.N.Chunks.LEN base).
    on_ok c.change.result (ap (λ o. all_bits g.N.Chunks.LEN (laid g.N.Chunks.LEN o base)) (c.change.ensures.pruned low) ∙ sym (clear_pruned g.N.Chunks.LEN c.args.self.now base c.args.at low)))
    (λ (kept : start g.N.Chunks.LEN base ≤ c.args.at). c.change.ensures.kept kept)
    (cases_lt c.args.at (start g.N.Chunks.LEN base))
