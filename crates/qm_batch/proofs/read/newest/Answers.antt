use Rattle.std.proofs.Common.{◌∙◌, Some, ap, map, refl, sym}
use Rattle.std.proofs.lemmas.List.{drop_all}
use Rattle.qm_step.specs.Changes.{change_in}
use Rattle.qm_step.specs.Layers.{Layer, nearest_layer}
use Rattle.qm_step.specs.Views.{change_view}
use Rattle.qm_batch.proofs.LayerEntries.{nearest-here, nearest-older}
use Rattle.qm_batch.proofs.read.newest.Goals as goal

pub loop-layer-init : goal.loop-layer-init
loop-layer-init g c = refl

pub returns-in-Some : goal.returns-in-Some
returns-in-Some g c =
    let layer : Layer = c.layer-item.result.value in
    let found = c.in-Some.ensures ∙ ap (λ (l : Layer). change_in l.changes c.args.key.now) c.deref.ensures in
    ap (λ (l : Layer). Some (l, change_view g.U.Value.ByteString.bytes c.in-Some.entry.now)) c.deref-in-Some.ensures
    ∙ sym (nearest-here (λ l. l.value) c.args.layers.now c.loop-layer.layer-index c.layer-item.result c.args.key.now c.loop-layer-test.true c.layer-item.is _ found)
    ∙ c.loop-layer.invariant

pub loop-layer-preserved : goal.loop-layer-preserved
loop-layer-preserved g c =
    let none = c.in_default.ensures ∙ ap (λ (l : Layer). change_in l.changes c.args.key.now) c.deref.ensures in
    sym (nearest-older (λ l. l.value) c.args.layers.now c.loop-layer.layer-index c.layer-item.result c.args.key.now c.loop-layer-test.true c.layer-item.is none)
    ∙ c.loop-layer.invariant

pub returns : goal.returns
returns g c =
    sym (ap (λ ls. nearest_layer (map (λ l. l.value) ls) c.args.key.now) (drop_all c.loop-layer.layer-index c.args.layers.now c.loop-layer-test.false))
    ∙ c.loop-layer.invariant
