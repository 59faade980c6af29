use Rattle.std.proofs.Common.{◌≡◌, ◌∙◌, None, ap, arith}
use Rattle.qm_overlay.specs.Layers.{changed_at}
use Rattle.qm_overlay.proofs.Laying.{whole-count}
use Rattle.qm_overlay.proofs.marks.LayingMarks.extend_to.Goals as goal

pub extend_to-requires-clause-not_below : goal.extend_to-requires-clause-not_below
extend_to-requires-clause-not_below g c =
    let count = whole-count g.N.Chunks.LEN (g.B.Readable.bitmap c.self.inside.base.now) c.self.inside.overlay c.self.inside.overlay c.args.self.now c.self.view_is c.self.invariant.0 in
    omega (arith, count, c.requires.not_below)

pub invariant_of-self : goal.invariant_of-self
invariant_of-self g c =
    let count = whole-count g.N.Chunks.LEN (g.B.Readable.bitmap c.self.inside.base.now) c.self.inside.overlay c.self.inside.overlay c.args.self.now c.self.view_is c.self.invariant.0 in
    (omega (arith, count, c.requires.not_below, c.extend_to.ensures.count, c.self.invariant.0), c.extend_to.ensures.from (g.B.Readable.bitmap c.self.inside.base.now).pruned c.self.invariant.1)
