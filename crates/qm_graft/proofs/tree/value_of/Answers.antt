use Rattle.std.proofs.lemmas.Result.{IfOk-from_err}
use Rattle.qm_graft.proofs.tree.value_of.Goals as goal

pub returns-in_err-bits : goal.returns-in_err-bits
returns-in_err-bits g c = record {
  value = IfOk-from_err c.from_residual.result _ c.from_residual.ensures.0;
  made = IfOk-from_err c.from_residual.result _ c.from_residual.ensures.0;
}
