use Rattle.std.proofs.Common.{◌≡◌, ◌∙◌, ◌++◌, ◌+◌, ap, arith, length, length-append, map, subst₂, sym}
use Rattle.std.specs.Prelude.{All, bytes_eq, count_by, filter_map, is_none}
use Rattle.std.specs.List.{IsDistinct}
use Rattle.std.proofs.lemmas.List.{length-map, map-append}
use Rattle.qm_model.specs.Ordered.{IsRing, ordered_moves}
use Rattle.qm_model.proofs.Results.{ok-then}
use Rattle.qm_step.specs.Going.{write_for, IsDecided}
use Rattle.qm_step.specs.Moves.{before_evicted, touch_naming}
use Rattle.qm_step.specs.OrderedViews.{ordered_touch, ordered_touches, ordered_update}
use Rattle.qm_step.specs.PlanViews.{decided_views}
use Rattle.qm_step.specs.Rings.{touch_in}
use Rattle.qm_step.specs.Touches.{IsFrom, operations_of}
use Rattle.qm_step.specs.Views.{read_view}
use Rattle.qm_step.proofs.MovesAll.{kept-are, none-gone}
use Rattle.std.proofs.lemmas.Result.{IfOk-from_err}
use Rattle.qm_step.proofs.moves.moved_behind.Goals as goal

pub returns-then-evicted-eq0 : goal.returns-then-evicted-eq0
returns-then-evicted-eq0 g c = record {
  value =
      let key = g.K.ByteString.bytes in
      let value = g.V.Value.ByteString.bytes in
      let made = ordered_touches key value c.args.made.items in
      let none = none-gone key value c.args.decided.items (sym (ap (count_by (λ d. is_none d.value)) c.deref.ensures.value) ∙ sym c.evicted.ensures.count ∙ c.if-evicted-eq0.true) in
      ok-then c.with_moves.result c.with_moves.ensures (λ touches is list long ring from decided distinct found.
      is ∙ ap (λ ts. made ++ ts) (kept-are list made c.args.size long (decided_views key value c.args.decided.items) ring from decided distinct none));
  count =
      let key = g.K.ByteString.bytes in
      let value = g.V.Value.ByteString.bytes in
      let view = ordered_touch key value in
      let made = c.args.made.items in
      let more = map (λ d. touch_naming d.next d) (decided_views key value c.args.decided.items) in
      ok-then c.with_moves.result c.with_moves.ensures (λ touches is.
      let own = touches.items in
      let long : length own ≡ length made + length more =
      sym (length-map own view) ∙ ap length is ∙ length-append (map view made) more ∙ ap (λ n. n + length more) (length-map made view) in
      omega (arith, long));
}

pub returns-clause-value : goal.returns-clause-value
returns-clause-value g c = λ list long ring from decided distinct found.
    let key = g.K.ByteString.bytes in
    let value = g.V.Value.ByteString.bytes in
    let moves =
    subst₂ (λ ms ds. IsRing (list ++ operations_of (ordered_touches key value ms)) → All (IsFrom list) (ordered_touches key value ms) → All (IsDecided list (list ++ operations_of (ordered_touches key value ms))) (decided_views key value ds) →
    IsDistinct bytes_eq (map (λ d. d.key) (map write_for (decided_views key value ds))) → map (read_view (ordered_update key value)) c.args.found.now ≡ filter_map (before_evicted (list ++ operations_of (ordered_touches key value ms))) (decided_views key value ds) →
    ordered_touches key value c.in_ok-moves.moves.items ≡ map (touch_in list) (ordered_moves (list ++ operations_of (ordered_touches key value ms)) (map write_for (decided_views key value ds))))
    c.deref-2.ensures.value c.deref-3.ensures.value (c.in_ok-moves.ensures list long) ring from decided distinct found in
    ap (ordered_touches key value) c.in_ok-append.ensures.items ∙ map-append (ordered_touch key value) c.args.made.items c.in_ok-moves.moves.items ∙ ap (λ ts. ordered_touches key value c.args.made.items ++ ts) moves

pub returns-in_err-moves : goal.returns-in_err-moves
returns-in_err-moves g c = record {
  value = IfOk-from_err c.from_residual.result _ c.from_residual.ensures.0;
  count = IfOk-from_err c.from_residual.result _ c.from_residual.ensures.0;
}

pub returns-in_err-append : goal.returns-in_err-append
returns-in_err-append g c = record {
  value = IfOk-from_err c.from_residual-in_err-append.result _ c.from_residual-in_err-append.ensures.0;
  count = IfOk-from_err c.from_residual-in_err-append.result _ c.from_residual-in_err-append.ensures.0;
}
