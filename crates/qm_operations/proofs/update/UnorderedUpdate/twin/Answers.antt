use Rattle.std.proofs.Common.{refl}
use Rattle.std.proofs.lemmas.Result.{IfOk-from_err}
use Rattle.qm_operations.proofs.update.UnorderedUpdate.twin.Goals as goal

pub returns-in_err-key : goal.returns-in_err-key
returns-in_err-key g c = IfOk-from_err c.from_residual.result _ c.from_residual.ensures.0

pub returns-in_err-value : goal.returns-in_err-value
returns-in_err-value g c = IfOk-from_err c.from_residual-in_err-value.result _ c.from_residual-in_err-value.ensures.0

pub returns : goal.returns
returns g c = rw (c.in_ok-key.ensures, c.in_ok-value.ensures) refl
