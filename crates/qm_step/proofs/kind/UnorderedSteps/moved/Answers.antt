use Rattle.std.proofs.Common.{◌≡◌, ◌∙◌, ◌++◌, ◌+◌, ap, length, arith, sym, map, length-append}
use Rattle.std.proofs.lemmas.List.{length-map}
use Rattle.qm_step.specs.Going.{touch_for}
use Rattle.qm_step.specs.PlanViews.{decided_views, unordered_touch, unordered_touches}
use Rattle.qm_step.specs.Touches.{operations_of}
use Rattle.qm_step.proofs.PlanCounts.{counts-unordered}
use Rattle.qm_step.proofs.Touched.{decided-touches}
use Rattle.qm_step.proofs.kind.UnorderedSteps.moved.Goals as goal

pub returns : goal.returns
returns g c = record {
  value = λ list ws long written are apart.
      let key = g.K.ByteString.bytes in
      let value = g.V.Value.ByteString.bytes in
      let made = unordered_touches key value c.args.made.items in
      let ds = decided_views key value c.args.decided.items in
      c.in_ok-add_decided.ensures ∙ ap (λ ts. made ++ ts) (decided-touches list (list ++ operations_of made) ds are);
  live = counts-unordered;
  count =
      let key = g.K.ByteString.bytes in
      let value = g.V.Value.ByteString.bytes in
      let view = unordered_touch key value in
      let made = c.args.made.items in
      let more = map touch_for (decided_views key value c.args.decided.items) in
      let own = c.add_decided.new.touches.items in
      let long : length own ≡ length made + length more =
      sym (length-map own view) ∙ ap length c.in_ok-add_decided.ensures ∙ length-append (map view made) more ∙ ap (λ n. n + length more) (length-map made view) in
      omega (arith, long);
}

pub returns-in_err-add_decided-clause-live : goal.returns-in_err-add_decided-clause-live
returns-in_err-add_decided-clause-live g c = counts-unordered
