use Rattle.std.proofs.Common.{◌∙◌, map, refl, arith, ◌++◌, ap₂}
use Rattle.std.proofs.lemmas.List.{length-map}
use Rattle.std.proofs.lemmas.Map.Iter.{rest_more, rest_all}
use Rattle.qm_step.specs.PlanViews.{unordered_view}
use Rattle.qm_step.specs.PlanViews.{unordered_touch}
use Rattle.qm_step.specs.Touches.{moved_touch}
use Rattle.qm_step.proofs.PlanLoops.{drained-more, drained-room, drained-all}
use Rattle.std.proofs.lemmas.Result.{IfOk-from_err}
use Rattle.qm_step.proofs.writes.moved_touches.Goals as goal

pub loop-at-preserved : goal.loop-at-preserved
loop-at-preserved g c =
    let key = g.K.ByteString.bytes in
    let value = g.V.Value.ByteString.bytes in record {
      touches = drained-more (unordered_touch key value) (λ e. moved_touch (e.0, unordered_view key value e.1)) c.loop-at.touches.items c.loop-at.at-iterator (map (λ e. moved_touch (e.0, unordered_view key value e.1)) c.args.rewrites.entries) c.push_reserved.new.self.items c.next.new.self _ (c.in-Some.at, c.in-Some.operation)
          (rest_more (λ x. x) c.loop-at.at-iterator c.next.new.self c.next.result (c.in-Some.at, c.in-Some.operation) c.in-Some.is c.next.ensures.steps) c.push_reserved.ensures.items refl c.loop-at.invariant.touches;
      room = c.push_reserved.ensures.capacity ∙ c.loop-at.invariant.room;
    }

pub push_reserved-requires : goal.push_reserved-requires
push_reserved-requires g c =
    let key = g.K.ByteString.bytes in
    let value = g.V.Value.ByteString.bytes in
    let room = drained-room (unordered_touch key value) (λ e. moved_touch (e.0, unordered_view key value e.1)) c.loop-at.touches.items c.loop-at.at-iterator (map (λ e. moved_touch (e.0, unordered_view key value e.1)) c.args.rewrites.entries) (c.in-Some.at, c.in-Some.operation) c.next.new.self
    (rest_more (λ x. x) c.loop-at.at-iterator c.next.new.self c.next.result (c.in-Some.at, c.in-Some.operation) c.in-Some.is c.next.ensures.steps) c.loop-at.invariant.touches in
    omega (arith, room, length-map c.args.rewrites.entries (λ e. moved_touch (e.0, unordered_view key value e.1)), c.loop-at.invariant.room, c.loop-at.touches.ok.0)

pub returns : goal.returns
returns g c =
    let key = g.K.ByteString.bytes in
    let value = g.V.Value.ByteString.bytes in
    drained-all (unordered_touch key value) (λ e. moved_touch (e.0, unordered_view key value e.1)) c.loop-at.touches.items c.loop-at.at-iterator (map (λ e. moved_touch (e.0, unordered_view key value e.1)) c.args.rewrites.entries)
    (rest_all (λ x. x) c.loop-at.at-iterator c.next.new.self c.next.result c.in-None.is c.next.ensures.steps) c.loop-at.invariant.touches

pub returns-in_err-touches : goal.returns-in_err-touches
returns-in_err-touches g c = IfOk-from_err c.from_residual.result _ c.from_residual.ensures.0

pub loop-at-init : goal.loop-at-init
loop-at-init g c =
    let key = g.K.ByteString.bytes in
    let value = g.V.Value.ByteString.bytes in
    let made = c.in_ok-touches.ensures in
    record {
      touches = ap₂ (λ ts es. map (unordered_touch key value) ts ++ map (λ e. moved_touch (e.0, unordered_view key value e.1)) es) made.items c.into_iter-at-iterator.ensures.into_iter_gives.0;
      room = made.exact ∙ c.len.ensures.len;
    }
