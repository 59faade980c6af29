use Rattle.std.proofs.lemmas.Result.{IfOk-from_err, err_from_is_err_and}
use Rattle.qm_merkle.proofs.batch.rows.replace.Goals as goal

pub returns-in_err-insert : goal.returns-in_err-insert
returns-in_err-insert g c =
    let result = c.from_residual.result in
    let failed = c.from_residual.ensures.0 in
    let exit = err_from_is_err_and result c.from_residual.ensures.1 in
    record {
      entries = IfOk-from_err result _ failed;
      here = IfOk-from_err result _ failed;
      other = IfOk-from_err result _ failed;
      count = λ none. IfOk-from_err result _ failed;
      err = rw exit.1 c.in_err-insert.ensures.err;
    }

pub returns-clause-entries : goal.returns-clause-entries
returns-clause-entries g c = c.in_ok-insert.ensures.entries

pub returns-clause-err : goal.returns-clause-err
returns-clause-err g c = tt
