use Rattle.std.proofs.Common.{◌∙◌, ◌++◌, ap, map}
use Rattle.std.specs.Prelude.{filter_map}
use Rattle.std.specs.Map.Iter.{deref}
use Rattle.std.proofs.lemmas.Map.Iter.{rest_more, rest_all}
use Rattle.qm_model.specs.Keys.{successor}
use Rattle.qm_step.specs.Moves.{place_before, rewritten_naming}
use Rattle.qm_step.specs.OrderedViews.{ordered_touch, ordered_touches}
use Rattle.qm_step.proofs.MovesLoops.{drained-some, drained-none, given-mapped}
use Rattle.std.proofs.lemmas.Result.{IfOk-from_err}
use Rattle.qm_step.proofs.moves.add_rewritten.Goals as goal

pub loop-found-init : goal.loop-found-init
loop-found-init g c =
    let key = g.K.ByteString.bytes in
    let value = g.V.Value.ByteString.bytes in
    ap (λ vs. map (ordered_touch key value) c.args.touches.now.items
    ++ filter_map (λ v. rewritten_naming (successor (map (λ e. e.0.now) c.args.keys.now.entries) (key v.now.1.key)) (place_before c.args.size (ordered_touches key value c.args.made.now) v.now.0) (key v.now.1.key) (value v.now.1.value)) vs)
    (c.into_iter-found-iterator.ensures.into_iter_gives ∙ c.values-found-items.ensures.rest)

pub loop-found-preserved : goal.loop-found-preserved
loop-found-preserved g c =
    let key = g.K.ByteString.bytes in
    let value = g.V.Value.ByteString.bytes in
    drained-some (ordered_touch key value)
    (λ v. rewritten_naming (successor (map (λ e. e.0.now) c.args.keys.now.entries) (key v.now.1.key)) (place_before c.args.size (ordered_touches key value c.args.made.now) v.now.0) (key v.now.1.key) (value v.now.1.value))
    c.loop-found.touches.items c.push_some.new.things.items c.in_ok-touch.touch c.in_ok-push_some.ensures c.loop-found.found-iterator c.next.new.self c.in-Some.found.now _
    (rest_more deref c.loop-found.found-iterator c.next.new.self c.next.result c.in-Some.found c.in-Some.is c.next.ensures.steps) c.in_ok-touch.ensures c.loop-found.invariant

pub returns : goal.returns
returns g c = record {
  made =
      let key = g.K.ByteString.bytes in
      let value = g.V.Value.ByteString.bytes in
      let view = ordered_touch key value in
      drained-none view
      (λ v. rewritten_naming (successor (map (λ e. e.0.now) c.args.keys.now.entries) (key v.now.1.key)) (place_before c.args.size (ordered_touches key value c.args.made.now) v.now.0) (key v.now.1.key) (value v.now.1.value))
      c.loop-found.touches.items c.loop-found.found-iterator _ (rest_all deref c.loop-found.found-iterator c.next.new.self c.next.result c.in-None.is c.next.ensures.steps) c.loop-found.invariant
      ∙ ap (λ ts. map view c.args.touches.now.items ++ ts)
      (given-mapped (λ v. rewritten_naming (successor (map (λ e. e.0.now) c.args.keys.now.entries) (key v.now.1.key)) (place_before c.args.size (ordered_touches key value c.args.made.now) v.now.0) (key v.now.1.key) (value v.now.1.value)) (λ e. e.1) c.args.broken.now.entries);
  ordered = c.values-found-items.ensures.ordered;
}

pub returns-in_err-touch : goal.returns-in_err-touch
returns-in_err-touch g c = record {
  made = IfOk-from_err c.from_residual.result _ c.from_residual.ensures.0;
  ordered = c.values-found-items.ensures.ordered;
}

pub returns-in_err-push_some : goal.returns-in_err-push_some
returns-in_err-push_some g c = record {
  made = IfOk-from_err c.from_residual-in_err-push_some.result _ c.from_residual-in_err-push_some.ensures.0;
  ordered = c.values-found-items.ensures.ordered;
}
