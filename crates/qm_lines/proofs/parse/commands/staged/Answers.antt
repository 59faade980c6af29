use Rattle.std.proofs.Common.{◌∙◌, ap, refl}
use Rattle.std.proofs.lemmas.Result.{err_from_is_err_and}
use Rattle.std.specs.Prelude.{option_map}
use Rattle.qm_machine.specs.Lines.{Apply, Evicted, Ops}
use Rattle.qm_machine.specs.Grammar.{staged_forms}
use Rattle.qm_lines.specs.Parsed.{lent}
use Rattle.qm_lines.proofs.Forms.{by_form, by_later, said_is}
use Rattle.qm_lines.proofs.Readings.{unread-of}
use Rattle.qm_lines.proofs.parse.commands.staged.Goals as goal

pub returns-then-is : goal.returns-then-is
returns-then-is c = by_form c.args.name.now (lent c.args.words.now) staged_forms 0 tt c.keyed.result c.if-is.ensures c.keyed.ensures

pub returns-then-is-2 : goal.returns-then-is-2
returns-then-is-2 c = by_form c.args.name.now (lent c.args.words.now) staged_forms 1 (c.if-is.ensures, tt) c.keyed-then-is-2.result c.if-is-2.ensures c.keyed-then-is-2.ensures

pub returns-then-is-3 : goal.returns-then-is-3
returns-then-is-3 c = by_form c.args.name.now (lent c.args.words.now) staged_forms 2 (c.if-is.ensures, (c.if-is-2.ensures, tt)) c.resolve.result c.if-is-3.ensures c.resolve.ensures

pub returns-else-is-6 : goal.returns-else-is-6
returns-else-is-6 c = by_later c.args.name.now (lent c.args.words.now) staged_forms 6 (c.if-is.ensures, (c.if-is-2.ensures, (c.if-is-3.ensures, (c.if-is-4.ensures, (c.if-is-5.ensures, (c.if-is-6.ensures, tt)))))) c.reading.result c.reading.ensures

pub returns-in_err-only_number : goal.returns-in_err-only_number
returns-in_err-only_number c =
    let exit = err_from_is_err_and c.from_residual.result c.from_residual.ensures.1 in
    rw (exit.1, exit.2) (unread-of (option_map Apply) refl _ _ (said_is c.args.name.now (lent c.args.words.now) 3 staged_forms (c.if-is.ensures, (c.if-is-2.ensures, (c.if-is-3.ensures, tt))) c.if-is-4.ensures) _ c.in_err-only_number.ensures)

pub returns-in_ok-only_number : goal.returns-in_ok-only_number
returns-in_ok-only_number c = ap (option_map Apply) c.in_ok-only_number.ensures ∙ said_is c.args.name.now (lent c.args.words.now) 3 staged_forms (c.if-is.ensures, (c.if-is-2.ensures, (c.if-is-3.ensures, tt))) c.if-is-4.ensures

pub returns-in_err-only_number-2 : goal.returns-in_err-only_number-2
returns-in_err-only_number-2 c =
    let exit = err_from_is_err_and c.from_residual-in_err-only_number-2.result c.from_residual-in_err-only_number-2.ensures.1 in
    rw (exit.1, exit.2) (unread-of (option_map Ops) refl _ _ (said_is c.args.name.now (lent c.args.words.now) 4 staged_forms (c.if-is.ensures, (c.if-is-2.ensures, (c.if-is-3.ensures, (c.if-is-4.ensures, tt)))) c.if-is-5.ensures) _ c.in_err-only_number-2.ensures)

pub returns-in_ok-only_number-2 : goal.returns-in_ok-only_number-2
returns-in_ok-only_number-2 c = ap (option_map Ops) c.in_ok-only_number-2.ensures ∙ said_is c.args.name.now (lent c.args.words.now) 4 staged_forms (c.if-is.ensures, (c.if-is-2.ensures, (c.if-is-3.ensures, (c.if-is-4.ensures, tt)))) c.if-is-5.ensures

pub returns-in_err-only_number-3 : goal.returns-in_err-only_number-3
returns-in_err-only_number-3 c =
    let exit = err_from_is_err_and c.from_residual-in_err-only_number-3.result c.from_residual-in_err-only_number-3.ensures.1 in
    rw (exit.1, exit.2) (unread-of (option_map Evicted) refl _ _ (said_is c.args.name.now (lent c.args.words.now) 5 staged_forms (c.if-is.ensures, (c.if-is-2.ensures, (c.if-is-3.ensures, (c.if-is-4.ensures, (c.if-is-5.ensures, tt))))) c.if-is-6.ensures) _ c.in_err-only_number-3.ensures)

pub returns-in_ok-only_number-3 : goal.returns-in_ok-only_number-3
returns-in_ok-only_number-3 c = ap (option_map Evicted) c.in_ok-only_number-3.ensures ∙ said_is c.args.name.now (lent c.args.words.now) 5 staged_forms (c.if-is.ensures, (c.if-is-2.ensures, (c.if-is-3.ensures, (c.if-is-4.ensures, (c.if-is-5.ensures, tt))))) c.if-is-6.ensures
