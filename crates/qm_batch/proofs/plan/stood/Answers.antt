use Rattle.std.proofs.Common.{◌∙◌, ◌+◌, ap, sym, refl, arith, count_by}
use Rattle.std.specs.Prelude.{is_some}
use Rattle.std.proofs.lemmas.List.{take_all}
use Rattle.std.proofs.lemmas.List.Sums.{count_by_more_no, count_by_more_yes}
use Rattle.qm_batch.proofs.plan.stood.Goals as goal
use Rattle.qm_batch.proofs.plan.stood.Goals.{then-is_some, else-is_some}

pub loop-touch-init : goal.loop-touch-init
loop-touch-init g c = (refl, omega arith)

pub loop-touch-preserved : goal.loop-touch-preserved
loop-touch-preserved g c =
    let before = c.loop-touch.invariant.0 in
    let low = c.loop-touch.invariant.1 in
    let here = ap (λ t. is_some t.before) (sym c.touch-item.is) ∙ sym c.is_some.ensures in
    elim c.if-is_some.branch [
      | then-is_some w ↦
          let is = w.count-is in
          (is ∙ ap (λ n. n + 1) before ∙ sym (count_by_more_yes (λ t. is_some t.before) c.args.touches.now c.loop-touch.touch-index c.touch-item.result c.loop-touch-test.true (here ∙ w.if-is_some.true)), omega (arith, is, low))
      | else-is_some w ↦
          let is = w.count-is in
          (is ∙ before ∙ sym (count_by_more_no (λ t. is_some t.before) c.args.touches.now c.loop-touch.touch-index c.touch-item.result c.loop-touch-test.true (here ∙ w.if-is_some.false)), omega (arith, is, low))
    ]

pub returns : goal.returns
returns g c = record {
  count = c.loop-touch.invariant.0 ∙ ap (count_by (λ t. is_some t.before)) (take_all c.loop-touch.touch-index c.args.touches.now c.loop-touch-test.false);
  bound =
      let low = c.loop-touch.invariant.1 in
      omega (arith, low, c.loop-touch.auto.touch-index-end);
}
