use Rattle.std.proofs.Common.{◌∙◌, ap, ◌++◌, sym, append-nil, map}
use Rattle.qm_step.specs.Links.{is_kind, keys_in, of_kind, touch_of}
use Rattle.qm_step.specs.OrderedViews.{ordered_touch, ordered_touches}
use Rattle.qm_step.specs.PlanViews.{linked_view}
use Rattle.qm_step.proofs.LinksSets.{push-shown, whole}
use Rattle.qm_step.proofs.LinksAgain.{written-next, written-not, place-shown}
use Rattle.std.proofs.lemmas.Result.{IfOk-from_err}
use Rattle.qm_step.proofs.links.add_written.Goals as goal
use Rattle.qm_step.proofs.links.add_written.Goals.{then-is_of+in_ok-operation+in_ok-push, else-is_of}

pub loop-written-preserved : goal.loop-written-preserved
loop-written-preserved g c =
    let key = g.K.ByteString.bytes in
    let value = g.V.Value.ByteString.bytes in
    let show = ordered_touches key value in
    let afters = keys_in c.args.afters.now.entries in
    let d = c.written-item.result in
    elim c.if-is_of.branch [
      | then-is_of+in_ok-operation+in_ok-push w ↦
          written-next (linked_view key value) afters (is_kind c.args.kind) c.args.linked.now c.loop-written.written-index d c.loop-written-test.true c.written-item.is (show c.args.touches.now.items) (show c.loop-written.touches.items)
          (show c.if-is_of.touches.items) c.loop-written.invariant _ w.if-is_of.ensures
          (ap (λ v. show v.items) w.touches-is ∙ push-shown (ordered_touch key value) c.loop-written.touches.items w.push.new.self.items _ w.in_ok-push.ensures.items)
          w.in_ok-operation.ensures (w.at.ensures ∙ place-shown (λ s. s.at) _ d.stands)
      | else-is_of w ↦
          written-not (linked_view key value) afters (is_kind c.args.kind) c.args.linked.now c.loop-written.written-index d c.loop-written-test.true c.written-item.is (show c.args.touches.now.items) (show c.loop-written.touches.items)
          (show c.if-is_of.touches.items) c.loop-written.invariant w.if-is_of.ensures (ap (λ v. show v.items) w.touches-is)
    ]

pub returns-in_err-operation : goal.returns-in_err-operation
returns-in_err-operation g c = IfOk-from_err c.from_residual.result _ c.from_residual.ensures.0

pub returns-in_err-push : goal.returns-in_err-push
returns-in_err-push g c = IfOk-from_err c.from_residual-in_err-push.result _ c.from_residual-in_err-push.ensures.0

pub loop-written-init : goal.loop-written-init
loop-written-init g c = sym (append-nil (ordered_touches g.K.ByteString.bytes g.V.Value.ByteString.bytes c.args.touches.now.items))

pub returns : goal.returns
returns g c =
    let key = g.K.ByteString.bytes in
    let value = g.V.Value.ByteString.bytes in
    c.loop-written.invariant
    ∙ ap (λ ls. ordered_touches key value c.args.touches.now.items ++ map (touch_of (keys_in c.args.afters.now.entries)) (of_kind c.args.kind ls)) (whole (linked_view key value) c.args.linked.now c.loop-written.written-index c.loop-written-test.false)
