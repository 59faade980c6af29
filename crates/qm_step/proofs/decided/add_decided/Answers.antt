use Rattle.std.proofs.Common.{◌∙◌, ◌++◌, ◌∷◌, [], ap, sym, ◌≡◌, append-nil, arith, length, map}
use Rattle.qm_step.specs.Going.{touch_for}
use Rattle.qm_step.specs.PlanViews.{decided_view, unordered_touch, unordered_touches, decided_views}
use Rattle.qm_step.proofs.PlanLoops.{pushed-more}
use Rattle.qm_step.proofs.Steps.{map-twice}
use Rattle.std.proofs.lemmas.Result.{IfOk-from_err}
use Rattle.std.proofs.lemmas.Iterator.Adapters.{YieldsList-from_vec}
use Rattle.std.proofs.lemmas.Iterator.Consumers.{YieldsList-end}
use Rattle.std.proofs.lemmas.List.{map-id}
use Rattle.qm_step.proofs.decided.add_decided.Goals as goal

pub loop-one-preserved : goal.loop-one-preserved
loop-one-preserved g c =
    let key = g.K.ByteString.bytes in
    let value = g.V.Value.ByteString.bytes in
    let front = unordered_touches key value c.args.touches.now.items in
    pushed-more (unordered_touch key value) (λ d. touch_for (decided_view key value d)) c.loop-one.touches.items c.push.new.self.items front c.loop-one.yielded c.touch_of.result c.in-Some.one c.in_ok-push.ensures.items c.touch_of.ensures
    (c.loop-one.invariant ∙ ap (λ ts. front ++ ts) (map-twice touch_for (decided_view key value) c.loop-one.yielded))
    ∙ ap (λ ts. front ++ ts) (sym (map-twice touch_for (decided_view key value) (c.loop-one.yielded ++ c.in-Some.one ∷ [])))

pub returns-in_err-push : goal.returns-in_err-push
returns-in_err-push g c = IfOk-from_err c.from_residual.result _ c.from_residual.ensures.0

pub loop-one-init : goal.loop-one-init
loop-one-init g c = sym (append-nil (unordered_touches g.K.ByteString.bytes g.V.Value.ByteString.bytes c.args.touches.now.items))

pub returns : goal.returns
returns g c =
    let key = g.K.ByteString.bytes in
    let value = g.V.Value.ByteString.bytes in
    let gives = c.into_iter-one-iterator.ensures.into_iter_gives in
    let count : c.into_iter-one-iterator.result.rest.len ≡ length c.args.decided.items = omega (arith, gives.1, c.args.decided.ok.0) in
    let all = YieldsList-end (YieldsList-from_vec {s = c.into_iter-one-iterator.result} c.args.decided.items gives.0 count) c.loop-one.yielded _ c.loop-one.yielded_by _ c.next.new.self c.in-None.is c.next.ensures.steps in
    c.loop-one.invariant
    ∙ ap (λ ds. unordered_touches key value c.args.touches.now.items ++ map touch_for (decided_views key value ds)) (sym (map-id c.loop-one.yielded) ∙ all.0)
