use Rattle.std.proofs.lemmas.Result.{IfOk-from_err}
use Rattle.qm_graft.proofs.root.partial_digest.Goals as goal

pub returns-in_err-chunk : goal.returns-in_err-chunk
returns-in_err-chunk g c = record {
  digest = IfOk-from_err c.from_residual.result _ c.from_residual.ensures.0;
  made = IfOk-from_err c.from_residual.result _ c.from_residual.ensures.0;
}
