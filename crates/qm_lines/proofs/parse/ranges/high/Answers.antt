use Rattle.std.proofs.Common.{◌∙◌, ap, refl, sym}
use Rattle.std.proofs.lemmas.Result.{err_from_is_err_and}
use Rattle.std.specs.Prelude.{option_map}
use Rattle.qm_model.specs.Ranges.{included, excluded}
use Rattle.qm_lines.proofs.Readings.{unread-of}
use Rattle.qm_lines.proofs.Ends.{bracketed, high-bracketed, high-unlimited}
use Rattle.qm_lines.proofs.parse.ranges.high.Goals as goal

pub returns-then-is : goal.returns-then-is
returns-then-is c = high-unlimited c.args.word.now c.if-is.ensures

pub returns-in_err-key-in-Some-eq93-default : goal.returns-in_err-key-in-Some-eq93-default
returns-in_err-key-in-Some-eq93-default c =
    let exit = err_from_is_err_and c.from_residual.result c.from_residual.ensures.1 in
    rw (exit.1, exit.2) (unread-of (option_map included) refl _ _ (ap (λ b. bracketed b c.in-Some-eq93-default.word.now) (sym c.in-Some-eq93-default.field-0-0-test) ∙ high-bracketed c.args.word.now c.in-Some-eq93-default.word.now c.in-Some-eq93-default.field-0-0.now c.if-is.ensures c.in-Some-eq93-default.ensures.cases.0)
    _ c.in_err-key-in-Some-eq93-default.ensures)

pub returns-in_ok-key-in-Some-eq93-default : goal.returns-in_ok-key-in-Some-eq93-default
returns-in_ok-key-in-Some-eq93-default c =
    ap (option_map included) c.in_ok-key-in-Some-eq93-default.ensures ∙ ap (λ b. bracketed b c.in-Some-eq93-default.word.now) (sym c.in-Some-eq93-default.field-0-0-test)
    ∙ high-bracketed c.args.word.now c.in-Some-eq93-default.word.now c.in-Some-eq93-default.field-0-0.now c.if-is.ensures c.in-Some-eq93-default.ensures.cases.0

pub returns-in_err-key-in-Some-eq41-default : goal.returns-in_err-key-in-Some-eq41-default
returns-in_err-key-in-Some-eq41-default c =
    let exit = err_from_is_err_and c.from_residual-in_err-key-in-Some-eq41-default.result c.from_residual-in_err-key-in-Some-eq41-default.ensures.1 in
    rw (exit.1, exit.2) (unread-of (option_map excluded) refl _ _ (ap (λ b. bracketed b c.in-Some-eq41-default.word.now) (sym c.in-Some-eq41-default.field-0-0-test) ∙ high-bracketed c.args.word.now c.in-Some-eq41-default.word.now c.in-Some-eq41-default.field-0-0.now c.if-is.ensures c.in-Some-eq41-default.ensures.cases.0)
    _ c.in_err-key-in-Some-eq41-default.ensures)

pub returns-in_ok-key-in-Some-eq41-default : goal.returns-in_ok-key-in-Some-eq41-default
returns-in_ok-key-in-Some-eq41-default c =
    ap (option_map excluded) c.in_ok-key-in-Some-eq41-default.ensures ∙ ap (λ b. bracketed b c.in-Some-eq41-default.word.now) (sym c.in-Some-eq41-default.field-0-0-test)
    ∙ high-bracketed c.args.word.now c.in-Some-eq41-default.word.now c.in-Some-eq41-default.field-0-0.now c.if-is.ensures c.in-Some-eq41-default.ensures.cases.0
