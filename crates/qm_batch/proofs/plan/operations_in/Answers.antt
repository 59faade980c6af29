use Rattle.std.proofs.Common.{◌∙◌, ◌++◌, ◌∷◌, [], ap, arith, length, map, subst, sym, ◌≡◌}
use Rattle.std.proofs.lemmas.List.{map-append, map-id}
use Rattle.std.proofs.lemmas.Iterator.Adapters.{YieldsList-from_vec}
use Rattle.std.proofs.lemmas.Iterator.Consumers.{YieldsList-end}
use Rattle.std.proofs.lemmas.Result.{IfOk-from_err}
use Rattle.std.specs.Vec.Iter.{into_iter_steps}
use Rattle.qm_batch.proofs.plan.operations_in.Goals as goal

pub overflow_add-len : goal.overflow_add-len
overflow_add-len g c = omega (arith, c.len.ensures, c.args.touches.ok.0)

pub loop-touch-init : goal.loop-touch-init
loop-touch-init g c =
    let gives = c.into_iter-touch-iterator.ensures.into_iter_gives in
    record {
      operations = c.in_ok-operations.ensures.items;
      count = omega (arith, gives.1, c.args.touches.ok.0, ap length c.in_ok-operations.ensures.items);
      room = omega (arith, c.in_ok-operations.ensures.exact, c.len.ensures, c.args.touches.ok.0);
    }

pub loop-touch-preserved : goal.loop-touch-preserved
loop-touch-preserved g c =
    let steps = subst (λ o. into_iter_steps c.loop-touch.touch-iterator o c.next.new.self) c.in-Some.is c.next.ensures.steps in
    record {
      operations = c.push_reserved.ensures.items ∙ ap (λ ops. ops ++ c.in-Some.touch.operation ∷ []) c.loop-touch.invariant.operations ∙ sym (map-append (λ t. t.operation) c.loop-touch.yielded (c.in-Some.touch ∷ []));
      count = omega (arith, steps.1, c.loop-touch.invariant.count, c.push_reserved.ensures.len, c.loop-touch.operations.ok.0, c.push_reserved.new.self.ok.0);
      room = c.push_reserved.ensures.capacity ∙ c.loop-touch.invariant.room;
    }

pub push_reserved-requires : goal.push_reserved-requires
push_reserved-requires g c = omega (arith, c.loop-touch.invariant.count, c.loop-touch.invariant.room, c.loop-touch.operations.ok.0)

pub returns-in_err-operations : goal.returns-in_err-operations
returns-in_err-operations g c = record {
  operations = IfOk-from_err c.from_residual.result _ c.from_residual.ensures.0;
  room = IfOk-from_err c.from_residual.result _ c.from_residual.ensures.0;
}

pub returns : goal.returns
returns g c =
    let gives = c.into_iter-touch-iterator.ensures.into_iter_gives in
    let count : c.into_iter-touch-iterator.result.rest.len ≡ length c.args.touches.items = omega (arith, gives.1, c.args.touches.ok.0) in
    let all = YieldsList-end (YieldsList-from_vec {s = c.into_iter-touch-iterator.result} c.args.touches.items gives.0 count) c.loop-touch.yielded _ c.loop-touch.yielded_by _ c.next.new.self c.in-None.is c.next.ensures.steps in
    record {
      operations = c.loop-touch.invariant.operations ∙ ap (map (λ t. t.operation)) (sym (map-id c.loop-touch.yielded) ∙ all.0);
      room = omega (arith, c.loop-touch.invariant.count, c.loop-touch.invariant.room);
    }
