use Rattle.std.proofs.Common.{map, sym}
use Rattle.std.proofs.lemmas.List.{append-nil}
use Rattle.qm_model.specs.Forms.{IsOf, spelling}
use Rattle.qm_operations.specs.Views.{operation_view}
use Rattle.qm_any.specs.Tips.{IsLow}
use Rattle.qm_any.proofs.Unapplied.{mapped-behind, all-behind, all-none, all-whole}
use Rattle.qm_any.proofs.operations.spell.Goals as goal

pub loop-operation-init : goal.loop-operation-init
loop-operation-init g c = record { of = all-none (IsOf g.U.Update.form); items = sym (append-nil (map (λ v. v.items) c.args.items.now.items)) }

pub loop-operation-preserved : goal.loop-operation-preserved
loop-operation-preserved g c =
    let view = operation_view g.U.Update.view g.U.Key.ByteString.bytes g.U.Value.ByteString.bytes in
    let at = c.loop-operation.operation-index in
    let list = c.args.operations.now in
    let op = c.operation-item.result in
    let within = c.loop-operation-test.true in
    record {
      of = all-behind view IsLow (IsOf g.U.Update.form) list at op within c.operation-item.is c.in_ok-item.ensures.of c.loop-operation.invariant.of;
      items = mapped-behind (spelling g.U.Update.form) view (λ v. v.items) (map (λ v. v.items) c.args.items.now.items) list at op
          c.loop-operation.items.items c.push.new.self.items c.in_ok-item.item within c.operation-item.is
          c.in_ok-push.ensures.items c.in_ok-item.ensures.spelled c.loop-operation.invariant.items;
    }

pub returns-clause-of : goal.returns-clause-of
returns-clause-of g c =
    all-whole (operation_view g.U.Update.view g.U.Key.ByteString.bytes g.U.Value.ByteString.bytes) IsLow (IsOf g.U.Update.form) c.args.operations.now c.loop-operation.operation-index c.loop-operation-test.false c.loop-operation.invariant.of
