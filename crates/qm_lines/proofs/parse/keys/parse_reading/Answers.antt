use Rattle.std.proofs.Common.{Some, subst}
use Rattle.std.proofs.lemmas.Result.{err_from_is_err_and}
use Rattle.qm_lines.specs.Parsed.{Reads}
use Rattle.qm_lines.proofs.Readings.{reading-lent, reading-lent_err}
use Rattle.qm_lines.proofs.parse.keys.parse_reading.Goals as goal

pub returns-in_err-keys : goal.returns-in_err-keys
returns-in_err-keys c =
    let exit = err_from_is_err_and c.from_residual.result c.from_residual.ensures.1 in
    rw (exit.1, exit.2) (reading-lent_err _ _ _ c.in-Some.ensures.cases.0 _ c.in_err-keys.ensures)

pub returns : goal.returns
returns c =
    let all = reading-lent _ _ _ c.in-Some.ensures.cases.0 (Some c.in_ok-keys.keys.items) c.in_ok-keys.ensures in
    subst (Reads (λ r. r) c.end_reading.result) all c.end_reading.ensures
