use Rattle.std.proofs.lemmas.Result.{IfOk-from_err}
use Rattle.std.proofs.Common.{◌∙◌, ap, ap₂, sym}
use Rattle.qm_operations.specs.declared.operation.Operation.TheVariants.{Update, Delete, CommitFloor}
use Rattle.qm_step.proofs.moves.twin_operation.Goals as goal

pub returns-in_err-twin-in-Update : goal.returns-in_err-twin-in-Update
returns-in_err-twin-in-Update g c = IfOk-from_err c.from_residual.result _ c.from_residual.ensures.0

pub returns-in_err-twin-in-Delete : goal.returns-in_err-twin-in-Delete
returns-in_err-twin-in-Delete g c = IfOk-from_err c.from_residual-in_err-twin-in-Delete.result _ c.from_residual-in_err-twin-in-Delete.ensures.0

pub returns-in_err-twin_option-in-CommitFloor : goal.returns-in_err-twin_option-in-CommitFloor
returns-in_err-twin_option-in-CommitFloor g c = IfOk-from_err c.from_residual-in_err-twin_option-in-CommitFloor.result _ c.from_residual-in_err-twin_option-in-CommitFloor.ensures.0

pub returns-in_ok-twin-in-Update : goal.returns-in_ok-twin-in-Update
returns-in_ok-twin-in-Update g c = ap (λ u. Update u) c.in_ok-twin-in-Update.ensures ∙ sym c.in-Update.is

pub returns-in_ok-twin-in-Delete : goal.returns-in_ok-twin-in-Delete
returns-in_ok-twin-in-Delete g c = ap (λ k. Delete k) c.in_ok-twin-in-Delete.ensures ∙ sym c.in-Delete.is

pub returns-in_ok-twin_option-in-CommitFloor : goal.returns-in_ok-twin_option-in-CommitFloor
returns-in_ok-twin_option-in-CommitFloor g c = ap₂ (λ m f. CommitFloor m f) c.in_ok-twin_option-in-CommitFloor.ensures (c.new.ensures ∙ c.get.ensures) ∙ sym c.in-CommitFloor.is
