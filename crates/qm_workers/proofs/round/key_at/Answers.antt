use Rattle.std.proofs.Common.{ap, sym, ◌∙◌}
use Rattle.std.proofs.lemmas.Option.{IfSome_then}
use Rattle.qm_operations.specs.Parts.{update_key}
use Rattle.qm_operations.specs.Views.{operation_view}
use Rattle.qm_build.proofs.Spelling.{same-spelled}
use Rattle.qm_workers.proofs.Asking.{key-update}
use Rattle.qm_workers.proofs.round.key_at.Goals as goal

pub returns-then-is_update-clause-value : goal.returns-then-is_update-clause-value
returns-then-is_update-clause-value g c = λ op.
    let view = operation_view g.U.Update.view g.U.Key.ByteString.bytes g.U.Value.ByteString.bytes c.in_ok-operation.operation in
    IfSome_then (g.C.Store.told c.args.log.now.store) c.in_ok-operation.ensures.spelled (λ s own spells.
    c.into_key.ensures ∙ key-update view (sym c.is_update.ensures ∙ c.if-is_update.true) ∙ ap update_key (same-spelled g.U.Update.form s c.args.at view op own spells))
