use Rattle.std.proofs.Common.{◌∙◌, ◌+◌, ap, sym, refl, arith, count_by}
use Rattle.qm_operations.specs.Parts.{is_update}
use Rattle.qm_operations.specs.Views.{operation_view}
use Rattle.std.proofs.lemmas.List.{take_all}
use Rattle.std.proofs.lemmas.List.Sums.{count_by_more_no, count_by_more_yes}
use Rattle.qm_batch.proofs.plan.updated.Goals as goal
use Rattle.qm_batch.proofs.plan.updated.Goals.{then-is_update, else-is_update}

pub loop-touch-init : goal.loop-touch-init
loop-touch-init g c = (refl, omega arith)

pub loop-touch-preserved : goal.loop-touch-preserved
loop-touch-preserved g c =
    let before = c.loop-touch.invariant.0 in
    let low = c.loop-touch.invariant.1 in
    let here = ap (λ t. is_update (operation_view g.U.Update.view g.U.Key.ByteString.bytes g.U.Value.ByteString.bytes t.operation)) (sym c.touch-item.is) ∙ sym c.is_update.ensures in
    elim c.if-is_update.branch [
      | then-is_update w ↦
          let is = w.count-is in
          (is ∙ ap (λ n. n + 1) before ∙ sym (count_by_more_yes (λ t. is_update (operation_view g.U.Update.view g.U.Key.ByteString.bytes g.U.Value.ByteString.bytes t.operation)) c.args.touches.now c.loop-touch.touch-index c.touch-item.result c.loop-touch-test.true (here ∙ w.if-is_update.true)), omega (arith, is, low))
      | else-is_update w ↦
          let is = w.count-is in
          (is ∙ before ∙ sym (count_by_more_no (λ t. is_update (operation_view g.U.Update.view g.U.Key.ByteString.bytes g.U.Value.ByteString.bytes t.operation)) c.args.touches.now c.loop-touch.touch-index c.touch-item.result c.loop-touch-test.true (here ∙ w.if-is_update.false)), omega (arith, is, low))
    ]

pub returns : goal.returns
returns g c = record {
  count = c.loop-touch.invariant.0 ∙ ap (count_by (λ t. is_update (operation_view g.U.Update.view g.U.Key.ByteString.bytes g.U.Value.ByteString.bytes t.operation))) (take_all c.loop-touch.touch-index c.args.touches.now c.loop-touch-test.false);
  bound =
      let low = c.loop-touch.invariant.1 in
      omega (arith, low, c.loop-touch.auto.touch-index-end);
}
