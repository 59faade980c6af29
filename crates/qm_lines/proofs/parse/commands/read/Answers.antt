use Rattle.std.proofs.Common.{◌∙◌, ap, refl}
use Rattle.std.proofs.lemmas.Result.{err_from_is_err_and}
use Rattle.std.specs.Prelude.{option_and_then}
use Rattle.qm_machine.specs.Lines.{Get, Next, Prev}
use Rattle.qm_machine.specs.Grammar.{one_read, read_of, reading_of}
use Rattle.qm_lines.specs.Parsed.{lent, read_line}
use Rattle.qm_lines.proofs.Readings.{unread-of}
use Rattle.qm_lines.proofs.parse.commands.read.Goals as goal

pub returns-in_err-reading : goal.returns-in_err-reading
returns-in_err-reading c =
    let exit = err_from_is_err_and c.from_residual.result c.from_residual.ensures.1 in
    rw (exit.1, exit.2) (unread-of (option_and_then (one_read (read_line c.args.form))) refl (reading_of (lent c.args.words.now)) (read_of (read_line c.args.form) (lent c.args.words.now)) refl _ c.in_err-reading.ensures)

pub returns-in_default : goal.returns-in_default
returns-in_default c = c.in_default.ensures (read_line c.args.form) ∙ ap (option_and_then (one_read (read_line c.args.form))) c.in_ok-reading.ensures

pub returns-in-Get : goal.returns-in-Get
returns-in-Get c = rw c.in-Get.is (c.in-Some.ensures Get ∙ ap (option_and_then (one_read Get)) c.in_ok-reading.ensures)

pub returns-in-Next : goal.returns-in-Next
returns-in-Next c = rw c.in-Next.is (c.in-Some.ensures Next ∙ ap (option_and_then (one_read Next)) c.in_ok-reading.ensures)

pub returns-in-Prev : goal.returns-in-Prev
returns-in-Prev c = rw c.in-Prev.is (c.in-Some.ensures Prev ∙ ap (option_and_then (one_read Prev)) c.in_ok-reading.ensures)
