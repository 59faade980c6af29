use Rattle.std.proofs.Common.{◌≡◌, ◌∙◌, ◌∷◌, ap, ap₂, map, arith}
use Rattle.qm_chain.specs.Bounds.{commitment_view}
use Rattle.qm_any.proofs.Making.{kept-tips}
use Rattle.qm_any.proofs.batch.MerkleizedBatch.child_tips.Goals as goal

pub returns : goal.returns
returns g c =
    let view = commitment_view g.D.Digest.bytes in
    let bounds = c.args.self.now.bounds in
    let tip : view (c.self-inside.inside.0.0).tip ≡ bounds.tip = ap (λ i. i.bounds.tip) c.self-inside.view_is ∙ ap (λ m. m.bounds.tip) c.self.view_is in
    let older = ap (map view) c.deref.ensures.value ∙ ap (λ i. i.bounds.ancestors) c.self-inside.view_is ∙ ap (λ m. m.bounds.ancestors) c.self.view_is in
    kept-tips view bounds c.args.keep c.deref.result.now c.split_at.result.0.now c.insert.new.self.items older (omega (arith, c.if-keep-eq0.false)) c.requires c.split_at.ensures.front
    (ap (map view) c.in_ok-insert.ensures.items ∙ ap₂ (λ t ts. t ∷ ts) tip (ap (map view) c.in_ok-tips.ensures.items))
