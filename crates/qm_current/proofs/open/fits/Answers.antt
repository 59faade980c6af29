use Rattle.std.proofs.Common.{◌≡◌, ◌∙◌, ◌/◌, ◌*◌, ◌^◌, ◌≤◌, nat_lt, false, ap, arith, sym, subst}
use Rattle.std.specs.Option.{option_map_or}
use Rattle.qm_bits.specs.Bitmaps.{Bitmap}
use Rattle.qm_graft.specs.Grafting.{grafting}
use Rattle.qm_graft.proofs.Fitting.{grafting-some}
use Rattle.qm_roots.proofs.Going.{opened-goes}
use Rattle.qm_current.proofs.Opening.{short-waits, start-within}
use Rattle.qm_current.proofs.open.fits.Goals as goal

pub returns-clause-over : goal.returns-clause-over
returns-clause-over g c =
    let any = c.args.any.now in
    let h = c.height.result in
    let behind = c.pruned_chunks-pruned.ensures ∙ ap (λ (m : Bitmap). m.pruned) c.bitmap.ensures in
    let from = c.get.ensures ∙ c.bounds-start.ensures.start ∙ c.bounds-start.ensures.first in
    let low : c.get.result / 2 ^ h ≤ c.pruned_chunks-pruned.result = omega (arith, c.if-pruned-get.false) in
    start-within g.N.Chunks.LEN any.log.tree.start any.activity.pruned h c.height.ensures.span
    (subst (λ n. n / 2 ^ h ≤ any.activity.pruned) from (subst (λ n. c.get.result / 2 ^ h ≤ n) behind low))

pub returns-clause-may_go : goal.returns-clause-may_go
returns-clause-may_go g c =
    let any = c.args.any.now in
    let shape = g.F.Family.shape in
    let height = grafting g.N.Chunks.LEN in
    let n = any.commitment.size in
    let span : 2 ^ height ≡ 8 * g.N.Chunks.LEN = ap (λ h. 2 ^ h) (sym c.height.ensures.exact) ∙ c.height.ensures.span in
    let inside : any.activity.pruned * 2 ^ height ≤ n = subst (λ k. any.activity.pruned * k ≤ n) (sym span) (omega (arith, c.bounds-start.ensures.bits)) in
    let long : option_map_or (λ least. nat_lt n least) c.args.threshold false ≡ false = subst (λ m. option_map_or (λ least. nat_lt m least) c.args.threshold false ≡ false) (c.get-2.ensures ∙ c.bounds-start.ensures.end) (sym c.is_short.ensures ∙ c.if-is_short.false) in
    opened-goes shape height (λ k none. g.met.F.Graftable.ready height k (grafting-some g.N.Chunks.LEN g.met.N.Chunks.least) none) n any.activity.pruned inside
    (λ least some. short-waits c.args.threshold n long least (c.requires.threshold ∙ some))
