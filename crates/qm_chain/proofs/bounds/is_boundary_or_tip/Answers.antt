use Rattle.std.proofs.Common.{map, ◌≡◌, ◌∙◌, ap, sym, false, ◌||◌}
use Rattle.std.specs.List.{list_any}
use Rattle.qm_model.specs.Batches.{same}
use Rattle.qm_chain.specs.Bounds.{commitment_view}
use Rattle.qm_chain.proofs.Fits.{any-map, any-where, same-turned}
use Rattle.qm_chain.proofs.bounds.is_boundary_or_tip.Goals as goal

pub returns-else-eq : goal.returns-else-eq
returns-else-eq g c =
    let view = commitment_view g.D.Digest.bytes in
    let current = c.args.current.now in
    let boundary = c.args.boundary.now in
    let other : false ≡ same (view current) (view boundary) = sym c.if-eq.false ∙ c.eq.ensures in
    c.contains.ensures.value
    ∙ any-where _ (λ tip. same (view current) (view tip)) c.args.tips.now (λ tip. same-turned (view tip) (view current))
    ∙ sym (any-map view (same (view current)) c.args.tips.now)
    ∙ ap (λ first. first || list_any (same (view current)) (map view c.args.tips.now)) other
