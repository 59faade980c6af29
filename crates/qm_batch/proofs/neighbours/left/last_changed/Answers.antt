use Rattle.std.proofs.Common.{◌∙◌, ap, map}
use Rattle.std.specs.Prelude.{option_map}
use Rattle.qm_step.specs.Nearest.{last_key, later_key, limit_view}
use Rattle.qm_step.proofs.LastKeys.{change-key, changed-more}
use Rattle.qm_batch.proofs.neighbours.left.last_changed.Goals as goal

pub loop-layer-preserved : goal.loop-layer-preserved
loop-layer-preserved g c =
    let limit = limit_view c.args.limit in
    let last = option_map (λ k. k.now) c.loop-layer.last in
    c.later-last.ensures
    ∙ ap (later_key last) (c.last_of.ensures ∙ ap (λ l. last_key limit (map change-key l.changes)) c.deref.ensures)
    ∙ changed-more (λ l. l.value) limit c.args.layers.now c.loop-layer.layer-index c.layer-item.result last c.loop-layer-test.true c.layer-item.is c.loop-layer.invariant
