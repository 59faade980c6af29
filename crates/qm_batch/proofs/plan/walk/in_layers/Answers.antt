use Rattle.std.proofs.Common.{◌≡◌, ◌∙◌, ◌-◌, ◌≤◌, ◌<◌, ap, ap₂, refl, sym, map, subst}
use Rattle.std.specs.Prelude.{slice_get}
use Rattle.std.proofs.lemmas.List.{drop_all}
use Rattle.qm_operations.specs.Views.{operation_view}
use Rattle.qm_step.specs.Layers.{Layer}
use Rattle.qm_batch.proofs.PlanFinds.{found_in, found-base, found-here, found-older, match-shown, match-none, got, got-shown}
use Rattle.qm_batch.proofs.plan.walk.in_layers.Goals as goal

pub returns-then-base-at : goal.returns-then-base-at
returns-then-base-at g c = λ lent base from within.
    let view = operation_view g.U.Update.view g.U.Key.ByteString.bytes g.U.Value.ByteString.bytes in
    let layers = map (λ l. l.value) c.args.layers.now in
    let layer : Layer = c.layer-item.result.value in
    let first : c.base.result ≡ layer.base = c.base.ensures ∙ ap (λ (l : Layer). l.base) c.deref.ensures in
    let second : c.base-then-base-at.result ≡ layer.base = c.base-then-base-at.ensures ∙ ap (λ (l : Layer). l.base) c.deref-then-base-at-2.ensures in
    let operations = c.operations.ensures ∙ ap (λ (l : Layer). l.operations) c.deref-then-base-at.ensures in
    match-shown (λ o. view o.now) c.get.result (found_in layers c.args.at) (slice_get base c.args.at) (slice_get lent c.args.at)
    (got-shown view c.get.result c.operations.result.now (c.args.at - c.base-then-base-at.result) (got c.get.result c.operations.result.now (c.args.at - c.base-then-base-at.result) c.get.ensures.lookup)
    ∙ ap₂ (λ ops n. slice_get ops (c.args.at - n)) operations second
    ∙ sym (found-here (λ l. l.value) c.args.layers.now c.loop-layer.layer-index c.layer-item.result c.args.at c.loop-layer-test.true c.layer-item.is (subst (λ n. n ≤ c.args.at) first c.if-base-at.true))
    ∙ c.loop-layer.invariant)
    (found-base layers base from.older lent c.args.at from.steps from.among within)

pub returns : goal.returns
returns g c = λ lent base from within.
    let layers = map (λ l. l.value) c.args.layers.now in
    match-none (found_in layers c.args.at) _ _
    (sym c.loop-layer.invariant ∙ ap (λ ls. found_in (map (λ l. l.value) ls) c.args.at) (drop_all c.loop-layer.layer-index c.args.layers.now c.loop-layer-test.false))
    (found-base layers base from.older lent c.args.at from.steps from.among within)

pub loop-layer-init : goal.loop-layer-init
loop-layer-init g c = refl

pub overflow_sub-at : goal.overflow_sub-at
overflow_sub-at g c =
    let layer : Layer = c.layer-item.result.value in
    let first : c.base.result ≡ layer.base = c.base.ensures ∙ ap (λ (l : Layer). l.base) c.deref.ensures in
    let second : c.base-then-base-at.result ≡ layer.base = c.base-then-base-at.ensures ∙ ap (λ (l : Layer). l.base) c.deref-then-base-at-2.ensures in
    subst (λ n. n ≤ c.args.at) (first ∙ sym second) c.if-base-at.true

pub loop-layer-preserved : goal.loop-layer-preserved
loop-layer-preserved g c =
    let layer : Layer = c.layer-item.result.value in
    let first : c.base.result ≡ layer.base = c.base.ensures ∙ ap (λ (l : Layer). l.base) c.deref.ensures in
    sym (found-older (λ l. l.value) c.args.layers.now c.loop-layer.layer-index c.layer-item.result c.args.at c.loop-layer-test.true c.layer-item.is (subst (λ n. c.args.at < n) first c.if-base-at.false))
    ∙ c.loop-layer.invariant
