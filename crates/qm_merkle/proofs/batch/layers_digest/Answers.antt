use Rattle.std.proofs.Common.{◌∙◌, ap, sym, map, drop, suc, add-one}
use Rattle.std.specs.Option.{option_or}
use Rattle.qm_merkle.specs.Batches.{layer_at, layers_at}
use Rattle.qm_merkle.proofs.Histories.{layers_at-next}
use Rattle.qm_merkle.proofs.batch.layers_digest.Goals as goal

pub returns-in-Some : goal.returns-in-Some
returns-in-Some g c =
    let shape = g.F.Family.shape in
    let p = c.args.position in
    let rest = layers_at shape (map (λ r. r.value) (drop (suc c.loop-layer.layer-index) c.args.layers.now)) p in
    ap (λ o. option_or o rest) (sym c.in-Some.is ∙ c.digest.ensures ∙ ap (λ l. layer_at shape l p) c.deref.ensures)
    ∙ sym (layers_at-next shape (λ r. r.value) c.args.layers.now c.loop-layer.layer-index c.layer-item.result p c.loop-layer-test.true c.layer-item.is)
    ∙ c.loop-layer.invariant

pub loop-layer-preserved : goal.loop-layer-preserved
loop-layer-preserved g c =
    let shape = g.F.Family.shape in
    let p = c.args.position in
    let rest = layers_at shape (map (λ r. r.value) (drop (suc c.loop-layer.layer-index) c.args.layers.now)) p in
    rw add-one
    (ap (λ o. option_or o rest) (sym c.in_default.is ∙ c.digest.ensures ∙ ap (λ l. layer_at shape l p) c.deref.ensures)
    ∙ sym (layers_at-next shape (λ r. r.value) c.args.layers.now c.loop-layer.layer-index c.layer-item.result p c.loop-layer-test.true c.layer-item.is)
    ∙ c.loop-layer.invariant)
