use Rattle.std.proofs.Common.{◌∙◌, arith, ap, map, sym, length}
use Rattle.std.proofs.lemmas.List.{take_all}
use Rattle.qm_step.specs.Layers.{Layer}
use Rattle.qm_any.proofs.Firsts.{passed-one, passed-before, passed-all}
use Rattle.qm_any.proofs.operations.unapplied_of.Goals as goal

pub loop-at-preserved : goal.loop-at-preserved
loop-at-preserved g c =
    passed-one (λ s. s.value) c.args.size c.args.steps.now c.loop-at.at c.index-steps-at.result c.loop-at-test.true c.index-steps-at.is
    (omega (arith, c.if-base-size.false, c.base.ensures, ap (λ (l : Layer). l.base) c.deref.ensures)) c.loop-at.invariant

pub returns : goal.returns
returns g c =
    let steps = c.args.steps.now in
    record {
      value = passed-all (λ s. s.value) c.args.size steps c.loop-at.at c.loop-at-test.false c.loop-at.invariant;
      first = sym (take_all (length steps) steps (omega arith));
      few = omega arith;
    }

pub returns-then-base-size-clause-value : goal.returns-then-base-size-clause-value
returns-then-base-size-clause-value g c =
    ap (map (λ s. s.value)) c.split_at.ensures.front
    ∙ passed-before (λ s. s.value) c.args.size c.args.steps.now c.loop-at.at c.index-steps-at.result c.loop-at-test.true c.index-steps-at.is
    (omega (arith, c.if-base-size.true, c.base.ensures, ap (λ (l : Layer). l.base) c.deref.ensures)) c.loop-at.invariant
