use Rattle.std.proofs.Common.{◌≡◌, ◌∙◌, ◌+◌, arith, ◌++◌, ◌∷◌, [], length, ap, sym, map, subst, refl, length-append, List, ℕ}
use Rattle.std.proofs.lemmas.List.{length-map}
use Rattle.std.specs.Prelude.{option_map, ◌==◌, if◌then◌else◌}
use Rattle.qm_operations.specs.Views.{operation_view}
use Rattle.qm_model.specs.Operations.{Operation, commit}
use Rattle.qm_model.specs.Step.{committed}
use Rattle.qm_step.specs.PlanViews.{pair_views, touch_view, touch_views}
use Rattle.qm_step.specs.Touches.{operations_of}
use Rattle.qm_step.specs.Views.{IsPlan, changes_view}
use Rattle.qm_batch.proofs.PlanOwns.{operations-push, own-length}
use Rattle.qm_batch.proofs.PlanSteps.{own-plan}
use Rattle.std.proofs.lemmas.Result.{err_from_is_err_and}
use Rattle.qm_batch.proofs.plan.planned.Goals as goal

pub returns : goal.returns
returns g c = record {
  count =
      let touches = c.args.own.touches.items in
      length-map c.push_reserved.new.self.items (operation_view g.U.Update.view g.U.Key.ByteString.bytes g.U.Value.ByteString.bytes)
      ∙ ap length c.push_reserved.ensures.items
      ∙ length-append c.in_ok-operations.operations.items (_ ∷ [])
      ∙ ap (λ n. n + 1) (ap length c.in_ok-operations.ensures.operations ∙ length-map touches (λ t. t.operation));
  live = refl;
  plan = λ base size from count.
      let key = g.U.Key.ByteString.bytes in
      let value = g.U.Value.ByteString.bytes in
      let view = touch_view g.U.Update.view key value in
      let touches = c.args.own.touches.items in
      let pairs = pair_views key value c.args.own.evicted.items in
      let own = operations_of (touch_views g.U.Update.view key value touches) in
      let meta = option_map value c.args.metadata in
      let place = c.commit_floor-floor.result in
      let changes = changes_view key value c.in_ok-diff.diff in
      let long : c.args.size + c.len.result ≡ length (base ++ own) = omega (arith, c.len.ensures, c.args.own.touches.ok.0, own-length view base touches c.args.size size) in
      let at : place ≡ (if c.args.own.live == 0 then length (base ++ own) else c.args.own.floor) =
      c.commit_floor-floor.ensures ∙ ap (λ n. if c.args.own.live == 0 then n else c.args.own.floor) long in
      let operations : map (operation_view g.U.Update.view key value) c.push_reserved.new.self.items ≡ own ++ commit meta place ∷ [] =
      operations-push (operation_view g.U.Update.view key value) view (λ t. t.operation) (λ t. refl) touches c.in_ok-operations.operations.items c.push_reserved.new.self.items _ (commit meta place) c.in_ok-operations.ensures.operations c.push_reserved.ensures.items (ap (commit meta) c.new.ensures) in
      let are = rw c.deref.ensures.value at (c.in_ok-diff.ensures base size) in
      subst (λ (n : ℕ). IsPlan (record { operations = map (operation_view g.U.Update.view key value) c.push_reserved.new.self.items; changes = changes; floor = n; live = c.args.own.live; evicted = pairs }) base (committed (base ++ own) c.args.own.floor meta) pairs) (sym c.new-2.ensures)
      (subst (λ (ops : List Operation). IsPlan (record { operations = ops; changes = changes; floor = place; live = c.args.own.live; evicted = pairs }) base (committed (base ++ own) c.args.own.floor meta) pairs) (sym operations)
      (own-plan base own changes pairs c.args.own.live place c.args.own.floor meta count at (are from)));
  memory = tt;
}

pub returns-in_err-diff : goal.returns-in_err-diff
returns-in_err-diff g c =
    let exit = err_from_is_err_and c.from_residual.result c.from_residual.ensures.1 in
    record {
      count = rw exit.1 tt;
      live = rw exit.1 tt;
      plan = rw exit.1 tt;
      memory = rw exit.1 exit.2;
    }

pub returns-in_err-operations : goal.returns-in_err-operations
returns-in_err-operations g c =
    let exit = err_from_is_err_and c.from_residual-in_err-operations.result c.from_residual-in_err-operations.ensures.1 in
    record {
      count = rw exit.1 tt;
      live = rw exit.1 tt;
      plan = rw exit.1 tt;
      memory = rw exit.1 exit.2;
    }

pub overflow_add-size : goal.overflow_add-size
overflow_add-size g c = omega (arith, c.len.ensures, c.args.own.touches.ok.0, c.requires)

pub push_reserved-requires : goal.push_reserved-requires
push_reserved-requires g c = omega (arith, c.in_ok-operations.ensures.room, c.in_ok-operations.operations.ok.0)
