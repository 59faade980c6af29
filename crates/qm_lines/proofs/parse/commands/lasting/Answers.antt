use Rattle.std.proofs.Common.{◌∙◌, ap, refl}
use Rattle.std.proofs.lemmas.Result.{err_from_is_err_and}
use Rattle.std.specs.Prelude.{option_map}
use Rattle.qm_machine.specs.Lines.{Prune, Crash}
use Rattle.qm_machine.specs.Grammar.{lasting_forms}
use Rattle.qm_lines.specs.Parsed.{lent}
use Rattle.qm_lines.proofs.Forms.{by_form, by_later, said_is}
use Rattle.qm_lines.proofs.Readings.{unread-of}
use Rattle.qm_lines.proofs.parse.commands.lasting.Goals as goal

pub returns-then-is-2 : goal.returns-then-is-2
returns-then-is-2 c = by_form c.args.name.now (lent c.args.words.now) lasting_forms 1 (c.if-is.ensures, tt) c.alone.result c.if-is-2.ensures c.alone.ensures

pub returns-then-is-3 : goal.returns-then-is-3
returns-then-is-3 c = by_form c.args.name.now (lent c.args.words.now) lasting_forms 2 (c.if-is.ensures, (c.if-is-2.ensures, tt)) c.alone-then-is-3.result c.if-is-3.ensures c.alone-then-is-3.ensures

pub returns-then-is-4 : goal.returns-then-is-4
returns-then-is-4 c = by_form c.args.name.now (lent c.args.words.now) lasting_forms 3 (c.if-is.ensures, (c.if-is-2.ensures, (c.if-is-3.ensures, tt))) c.alone-then-is-4.result c.if-is-4.ensures c.alone-then-is-4.ensures

pub returns-then-is-5 : goal.returns-then-is-5
returns-then-is-5 c = by_form c.args.name.now (lent c.args.words.now) lasting_forms 4 (c.if-is.ensures, (c.if-is-2.ensures, (c.if-is-3.ensures, (c.if-is-4.ensures, tt)))) c.alone-then-is-5.result c.if-is-5.ensures c.alone-then-is-5.ensures

pub returns-else-is-6 : goal.returns-else-is-6
returns-else-is-6 c = by_later c.args.name.now (lent c.args.words.now) lasting_forms 6 (c.if-is.ensures, (c.if-is-2.ensures, (c.if-is-3.ensures, (c.if-is-4.ensures, (c.if-is-5.ensures, (c.if-is-6.ensures, tt)))))) c.current.result c.current.ensures

pub returns-in_err-only_number : goal.returns-in_err-only_number
returns-in_err-only_number c =
    let exit = err_from_is_err_and c.from_residual.result c.from_residual.ensures.1 in
    rw (exit.1, exit.2) (unread-of (option_map Prune) refl _ _ (said_is c.args.name.now (lent c.args.words.now) 0 lasting_forms tt c.if-is.ensures) _ c.in_err-only_number.ensures)

pub returns-in_ok-only_number : goal.returns-in_ok-only_number
returns-in_ok-only_number c = ap (option_map Prune) c.in_ok-only_number.ensures ∙ said_is c.args.name.now (lent c.args.words.now) 0 lasting_forms tt c.if-is.ensures

pub returns-in_err-only_number-2 : goal.returns-in_err-only_number-2
returns-in_err-only_number-2 c =
    let exit = err_from_is_err_and c.from_residual-in_err-only_number-2.result c.from_residual-in_err-only_number-2.ensures.1 in
    rw (exit.1, exit.2) (unread-of (option_map Crash) refl _ _ (said_is c.args.name.now (lent c.args.words.now) 5 lasting_forms (c.if-is.ensures, (c.if-is-2.ensures, (c.if-is-3.ensures, (c.if-is-4.ensures, (c.if-is-5.ensures, tt))))) c.if-is-6.ensures) _ c.in_err-only_number-2.ensures)

pub returns-in_ok-only_number-2 : goal.returns-in_ok-only_number-2
returns-in_ok-only_number-2 c = ap (option_map Crash) c.in_ok-only_number-2.ensures ∙ said_is c.args.name.now (lent c.args.words.now) 5 lasting_forms (c.if-is.ensures, (c.if-is-2.ensures, (c.if-is-3.ensures, (c.if-is-4.ensures, (c.if-is-5.ensures, tt))))) c.if-is-6.ensures
