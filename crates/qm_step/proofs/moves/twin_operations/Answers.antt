use Rattle.std.proofs.lemmas.Result.{IfOk-from_err}
use Rattle.std.proofs.Common.{◌∙◌, ap, length, map, arith}
use Rattle.std.proofs.lemmas.List.{take_all}
use Rattle.qm_step.proofs.MovesLoops.{taken-more}
use Rattle.qm_step.proofs.moves.twin_operations.Goals as goal

pub returns-in_err-operations : goal.returns-in_err-operations
returns-in_err-operations g c = IfOk-from_err c.from_residual.result _ c.from_residual.ensures.0

pub returns-in_err-twin_operation : goal.returns-in_err-twin_operation
returns-in_err-twin_operation g c = IfOk-from_err c.from_residual-in_err-twin_operation.result _ c.from_residual-in_err-twin_operation.ensures.0

pub loop-touch-init : goal.loop-touch-init
loop-touch-init g c = record {
  operations = c.in_ok-operations.ensures.items;
  count = ap length c.in_ok-operations.ensures.items;
  room = c.in_ok-operations.ensures.exact;
}

pub loop-touch-preserved : goal.loop-touch-preserved
loop-touch-preserved g c = record {
  operations =
      taken-more (λ t. t.operation) c.args.touches.now c.loop-touch.touch-index c.touch-item.result c.loop-touch.operations.items c.push_reserved.new.self.items c.in_ok-twin_operation.field-0 c.loop-touch-test.true c.touch-item.is
      c.push_reserved.ensures.items c.in_ok-twin_operation.ensures c.loop-touch.invariant.operations;
  count = omega (arith, c.push_reserved.ensures.len, c.loop-touch.invariant.count, c.loop-touch.operations.ok.0, c.push_reserved.new.self.ok.0);
  room = c.push_reserved.ensures.capacity ∙ c.loop-touch.invariant.room;
}

pub returns : goal.returns
returns g c = c.loop-touch.invariant.operations ∙ ap (map (λ t. t.operation)) (take_all c.loop-touch.touch-index c.args.touches.now c.loop-touch-test.false)
