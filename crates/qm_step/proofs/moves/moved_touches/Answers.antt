use Rattle.std.proofs.Common.{◌∙◌, ap, sym, map, arith, length}
use Rattle.std.proofs.lemmas.List.{take_all}
use Rattle.qm_model.specs.Keys.{successor}
use Rattle.qm_step.specs.Going.{Decided}
use Rattle.qm_step.specs.Moves.{touch_naming}
use Rattle.qm_step.specs.OrderedViews.{ordered_touch}
use Rattle.qm_step.specs.PlanViews.{decided_view}
use Rattle.qm_step.proofs.MovesLoops.{mapped-more}
use Rattle.qm_step.proofs.Steps.{map-twice}
use Rattle.std.proofs.lemmas.Result.{IfOk-from_err}
use Rattle.qm_step.proofs.moves.moved_touches.Goals as goal

pub loop-one-preserved : goal.loop-one-preserved
loop-one-preserved g c =
    let key = g.K.ByteString.bytes in
    let value = g.V.Value.ByteString.bytes in record {
      touches = mapped-more (λ d. touch_naming (successor (map (λ e. e.0.now) c.args.keys.now.entries) (key d.key)) (decided_view key value d)) (ordered_touch key value) c.args.decided.now c.loop-one.one-index c.one-item.result
          c.loop-one.touches.items c.push_reserved.new.self.items c.in_ok-moved_touch.field-0 c.loop-one-test.true c.one-item.is c.push_reserved.ensures.items c.in_ok-moved_touch.ensures c.loop-one.invariant.touches;
      count = omega (arith, c.push_reserved.ensures.len, c.loop-one.invariant.count, c.loop-one.touches.ok.0, c.push_reserved.new.self.ok.0);
      room = c.push_reserved.ensures.capacity ∙ c.loop-one.invariant.room;
    }

pub returns : goal.returns
returns g c =
    let key = g.K.ByteString.bytes in
    let value = g.V.Value.ByteString.bytes in
    let names = map (λ e. e.0.now) c.args.keys.now.entries in
    c.loop-one.invariant.touches
    ∙ ap (map (λ d. touch_naming (successor names (key d.key)) (decided_view key value d))) (take_all c.loop-one.one-index c.args.decided.now c.loop-one-test.false)
    ∙ sym (map-twice (λ (d : Decided). touch_naming (successor names d.key) d) (decided_view key value) c.args.decided.now)

pub returns-in_err-touches : goal.returns-in_err-touches
returns-in_err-touches g c = IfOk-from_err c.from_residual.result _ c.from_residual.ensures.0

pub returns-in_err-moved_touch : goal.returns-in_err-moved_touch
returns-in_err-moved_touch g c = IfOk-from_err c.from_residual-in_err-moved_touch.result _ c.from_residual-in_err-moved_touch.ensures.0

pub loop-one-init : goal.loop-one-init
loop-one-init g c = record {
  touches = ap (map (ordered_touch g.K.ByteString.bytes g.V.Value.ByteString.bytes)) c.in_ok-touches.ensures.items;
  count = ap length c.in_ok-touches.ensures.items;
  room = c.in_ok-touches.ensures.exact;
}
