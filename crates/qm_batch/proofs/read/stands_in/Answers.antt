use Rattle.std.proofs.lemmas.Result.{IfOk-from_err, err_from_is_err_and}
use Rattle.qm_batch.proofs.read.stands_in.Goals as goal

pub returns-in_err-stands_at-in-Some-Update : goal.returns-in_err-stands_at-in-Some-Update
returns-in_err-stands_at-in-Some-Update g c =
    let exit = err_from_is_err_and c.from_residual.result c.from_residual.ensures.1 in
    record {
      value = IfOk-from_err c.from_residual.result _ c.from_residual.ensures.0;
      memory = rw exit.1 exit.2;
    }
