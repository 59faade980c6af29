use Rattle.std.proofs.Common.{◌≡◌, ◌∙◌, ◌+◌, Bool, Option, true, false, ap, sym, subst, arith, refl, le_refl, count_by}
use Rattle.std.specs.Prelude.{is_none, is_some, not}
use Rattle.std.proofs.lemmas.List.Sums.{count_by_more_yes, count_by_more_no}
use Rattle.qm_step.proofs.MovesLoops.{none-is}
use Rattle.std.proofs.lemmas.List.{take_all}
use Rattle.qm_step.proofs.decided.evicted.Goals as goal
use Rattle.qm_step.proofs.decided.evicted.Goals.{then-is_none, else-is_none}

some-is : {X : Type 0} (o : Option X) (r : Bool) → is_some o ≡ not r → r ≡ false → is_none o ≡ false
some-is o r is same = ap not (is ∙ ap not same)

pub loop-one-preserved : goal.loop-one-preserved
loop-one-preserved g c =
    let xs = c.args.decided.now in
    let i = c.loop-one.one-index in
    let d = c.one-item.result in
    elim c.if-is_none.branch [
      | then-is_none w ↦ (
        w.count-is ∙ ap (λ n. n + 1) c.loop-one.invariant.0
            ∙ sym (count_by_more_yes (λ e. is_none e.value) xs i d c.loop-one-test.true (subst (λ e. is_none e.value ≡ true) c.one-item.is (none-is d.value c.is_none.result c.is_none.ensures w.if-is_none.true))),
        omega (arith, w.count-is, c.loop-one.invariant.1),
      )
      | else-is_none w ↦ (
        w.count-is ∙ c.loop-one.invariant.0
            ∙ sym (count_by_more_no (λ e. is_none e.value) xs i d c.loop-one-test.true (subst (λ e. is_none e.value ≡ false) c.one-item.is (some-is d.value c.is_none.result c.is_none.ensures w.if-is_none.false))),
        omega (arith, w.count-is, c.loop-one.invariant.1),
      )
    ]

pub loop-one-init : goal.loop-one-init
loop-one-init g c = (refl, le_refl _)

pub returns : goal.returns
returns g c = record {
  count = c.loop-one.invariant.0 ∙ ap (count_by (λ d. is_none d.value)) (take_all c.loop-one.one-index c.args.decided.now c.loop-one-test.false);
  bound = omega (arith, c.loop-one.invariant.1, c.loop-one.auto.one-index-end);
}
