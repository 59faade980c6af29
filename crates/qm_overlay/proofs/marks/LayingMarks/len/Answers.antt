use Rattle.std.proofs.Common.{◌∙◌, sym}
use Rattle.qm_overlay.proofs.Laying.{whole-count}
use Rattle.qm_overlay.proofs.marks.LayingMarks.len.Goals as goal

pub returns : goal.returns
returns g c =
    let base = g.B.Readable.bitmap c.self.inside.base.now in
    c.len.ensures.value ∙ sym (whole-count g.N.Chunks.LEN base c.self.inside.overlay c.self.inside.overlay c.args.self.now c.self.view_is c.self.invariant.0)
