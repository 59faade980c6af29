use Rattle.std.proofs.Common.{refl}
use Rattle.std.proofs.lemmas.Result.{IfOk-from_err, err_from_is_err_and}
use Rattle.qm_store.proofs.log.forget.Goals as goal

pub returns-in_err-pins : goal.returns-in_err-pins
returns-in_err-pins g c =
    let result = c.from_residual.result in
    let failed = c.from_residual.ensures.0 in
    let exit = err_from_is_err_and result c.from_residual.ensures.1 in
    record {
      start = IfOk-from_err result _ failed;
      leaves = IfOk-from_err result _ failed;
      stands = λ hash list is. IfOk-from_err result _ failed;
      head = λ hash list is. IfOk-from_err result _ failed;
      whole = c.bounds-start.ensures.whole;
      err = rw exit.1 refl;
    }

pub returns-in_err-head : goal.returns-in_err-head
returns-in_err-head g c =
    let result = c.from_residual-in_err-head.result in
    let failed = c.from_residual-in_err-head.ensures.0 in
    let exit = err_from_is_err_and result c.from_residual-in_err-head.ensures.1 in
    record {
      start = IfOk-from_err result _ failed;
      leaves = IfOk-from_err result _ failed;
      stands = λ hash list is. IfOk-from_err result _ failed;
      head = λ hash list is. IfOk-from_err result _ failed;
      whole = c.bounds-start.ensures.whole;
      err = rw exit.1 refl;
    }

pub returns-in_err-prune : goal.returns-in_err-prune
returns-in_err-prune g c =
    let result = c.from_residual-in_err-prune.result in
    let failed = c.from_residual-in_err-prune.ensures.0 in
    let exit = err_from_is_err_and result c.from_residual-in_err-prune.ensures.1 in
    record {
      start = IfOk-from_err result _ failed;
      leaves = IfOk-from_err result _ failed;
      stands = λ hash list is. IfOk-from_err result _ failed;
      head = λ hash list is. IfOk-from_err result _ failed;
      whole = c.bounds-start.ensures.whole;
      err = rw exit.1 c.in_err-prune.ensures.err;
    }
