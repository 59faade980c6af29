use Rattle.std.proofs.Common.{◌≡◌, ◌∙◌, arith, ap, map, drop}
use Rattle.std.proofs.lemmas.Result.{IfOk-from_err}
use Rattle.qm_model.specs.Forms.{spelling}
use Rattle.qm_any.specs.Databases.{operations_in}
use Rattle.qm_any.proofs.operations.spelled_steps.Goals as goal

pub bounds-steps-at : goal.bounds-steps-at
bounds-steps-at g c = omega (arith, c.loop-at.auto.at, c.loop-at-test.true)

pub returns : goal.returns
returns g c =
    let none : c.loop-at.at ≡ 0 = omega (arith, c.loop-at-test.false) in
    c.loop-at.invariant ∙ ap (λ at. map (spelling g.U.Update.form) (operations_in (map (λ s. s.value) (drop at c.args.steps.now)))) none

pub returns-in_err-spell : goal.returns-in_err-spell
returns-in_err-spell g c = IfOk-from_err c.from_residual.result _ c.from_residual.ensures.0
