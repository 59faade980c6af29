use Rattle.std.proofs.Common.{◌∙◌, ◌≤◌, length, drop}
use Rattle.std.proofs.lemmas.Result.{err_from_is_err_and}
use Rattle.qm_lines.proofs.Causes.{took}
use Rattle.qm_lines.proofs.Fronts.{reach, rest}
use Rattle.qm_lines.proofs.Told.{Grows-further, GrowsPart-at_err}
use Rattle.qm_lines.proofs.whole.write_all.Goals as goal

pub returns-in_err-at-clause-err : goal.returns-in_err-at-clause-err
returns-in_err-at-clause-err g c =
    let text = c.args.text.now in
    let at = c.loop-at.at in
    let exit = err_from_is_err_and c.from_residual.result c.from_residual.ensures.1 in
    rw exit.1 (GrowsPart-at_err _ _ _ at text c.loop-at.invariant.written c.in_err-at.field-0.0 (rw (rest at text) at c.in_err-at.ensures.bytes))

pub loop-at-preserved : goal.loop-at-preserved
loop-at-preserved g c =
    let text = c.args.text.now in
    let at = c.loop-at.at in
    let bound : c.in_ok-at.field-0 ≤ length (drop at text) = rw (rest at text) at c.in_ok-at.ensures.bound in
    record {
      within = reach at c.in_ok-at.field-0 text c.loop-at-test.true bound;
      written = Grows-further _ _ _ at text c.loop-at.invariant.written c.in_ok-at.field-0 (rw (rest at text) at c.in_ok-at.ensures.bytes);
      steady = c.in_ok-at.ensures.steady (took _) ∙ c.loop-at.invariant.steady;
    }
