use Rattle.std.proofs.Common.{◌∙◌, ap}
use Rattle.qm_overlay.specs.Layers.{laid}
use Rattle.qm_overlay.proofs.Applying.{laid_none}
use Rattle.qm_overlay.proofs.overlay.ChunkOverlay.new.Goals as goal

pub returns-clause-bits : goal.returns-clause-bits
returns-clause-bits g c =
    let base = g.B.Readable.bitmap c.args.base.now in
    ap (λ chunks. laid g.N.Chunks.LEN (record { count = c.args.len; changed = chunks }) base) c.new.ensures.empty ∙ laid_none g.N.Chunks.LEN base c.args.len c.requires.not_below
