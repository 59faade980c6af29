use Rattle.std.proofs.Common.{inl, inr, refl, sym}
use Rattle.std.proofs.lemmas.Result.{err_from_is_err_and}
use Rattle.qm_build.proofs.read.operation_in.Goals as goal

pub returns-in-Some : goal.returns-in-Some
returns-in-Some g c = record {
  decoded = sym (rw c.in-Some.is at c.in_ok-operation.ensures.decoded);
  spelled = rw c.in-Some.is at c.in_ok-operation.ensures.some;
  none = tt;
  never = tt;
}

pub returns-in-None : goal.returns-in-None
returns-in-None g c = record {
  decoded = tt;
  spelled = tt;
  none = λ is. (sym (rw c.in-None.is at c.in_ok-operation.ensures.decoded), rw c.in-None.is at c.in_ok-operation.ensures.none);
  never = inr refl;
}

pub returns-in_err-operation : goal.returns-in_err-operation
returns-in_err-operation g c =
    let exit = err_from_is_err_and c.from_residual.result c.from_residual.ensures.1 in
    rw (exit.1, exit.2) (record { decoded = tt; spelled = tt; none = λ is. absurd cc; never = inl refl })
