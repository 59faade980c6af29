use Rattle.std.proofs.Common.{◌∙◌, ◌≤◌, ap, refl, sym, subst, arith}
use Rattle.qm_bits.specs.Bitmaps.{bit_count}
use Rattle.qm_overlay.specs.Layers.{Overlay, laid, longer}
use Rattle.qm_overlay.proofs.Applying.{laid_longer}
use Rattle.qm_overlay.proofs.overlay.ChunkOverlay.extend_to.Goals as goal

pub returns-clause-bits : goal.returns-clause-bits
returns-clause-bits g c = λ base least.
    let size = g.N.Chunks.LEN in
    let old : Overlay = record { count = c.self.inside.len; changed = c.self.inside.changed.entries } in
    let new : Overlay = record { count = c.args.len; changed = c.self.inside.changed.entries } in
    laid_longer size old new base c.args.len (omega (arith, g.met.N.Chunks.least)) c.self.invariant.0 refl refl
    (subst (λ o. bit_count size base ≤ o.count) (sym c.self.view_is) least) (subst (λ o. o.count ≤ c.args.len) (sym c.self.view_is) c.requires.not_below)
    ∙ ap (λ o. longer size (laid size o base) c.args.len) c.self.view_is
