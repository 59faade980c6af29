use Rattle.std.proofs.Common.{◌+◌, sym, subst, map, take, ◌∙◌, ap}
use Rattle.qm_step.specs.PlanViews.{touch_view}
use Rattle.qm_step.specs.Touches.{AreReplaced, is_replaced}
use Rattle.qm_step.proofs.PlanReplaced.{replaced-more, replaced-same}
use Rattle.std.proofs.lemmas.Result.{IfOk-from_err}
use Rattle.std.proofs.lemmas.List.{take_all}
use Rattle.std.specs.BTreeSet.{contains}
use Rattle.std.specs.Ordering.{nat_cmp}
use Rattle.qm_step.proofs.touch.replaced_by.Goals as goal
use Rattle.qm_step.proofs.touch.replaced_by.Goals.{in-Some+in_ok-insert, in_default}

pub loop-touch-preserved : goal.loop-touch-preserved
loop-touch-preserved g c =
    let view = touch_view g.U.Update.view g.U.Key.ByteString.bytes g.U.Value.ByteString.bytes in
    let touches = c.args.touches.now in
    let i = c.loop-touch.touch-index in
    let touch = c.touch-item.result in
    let old = c.loop-touch.replaced in
    elim c.match-touch.branch [
      | in-Some+in_ok-insert w ↦
          subst (λ r. AreReplaced r (map view (take (i + 1) touches))) (sym w.replaced-is)
          (replaced-more view touches i touch c.loop-touch-test.true c.touch-item.is old w.insert.new.self w.in-Some.at w.in-Some.is w.in_ok-insert.ensures.updates c.loop-touch.invariant)
      | in_default w ↦
          subst (λ r. AreReplaced r (map view (take (i + 1) touches))) (sym w.replaced-is)
          (replaced-same view touches i touch c.loop-touch-test.true c.touch-item.is old w.in_default.is c.loop-touch.invariant)
    ]

pub returns-in_err-insert : goal.returns-in_err-insert
returns-in_err-insert g c = IfOk-from_err c.from_residual.result _ c.from_residual.ensures.0

pub loop-touch-init : goal.loop-touch-init
loop-touch-init g c = λ at. ap (λ ks. contains nat_cmp (record { keys = ks }) at) c.new-replaced.ensures.empty

pub returns : goal.returns
returns g c = λ at.
    c.loop-touch.invariant at
    ∙ ap (λ ts. is_replaced (map (touch_view g.U.Update.view g.U.Key.ByteString.bytes g.U.Value.ByteString.bytes) ts) at) (take_all c.loop-touch.touch-index c.args.touches.now c.loop-touch-test.false)
