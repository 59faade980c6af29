use Rattle.std.proofs.Common.{◌∙◌, ap, refl}
use Rattle.std.proofs.lemmas.Result.{err_from_is_err_and}
use Rattle.std.specs.Prelude.{option_map}
use Rattle.qm_machine.specs.Lines.{BatchRoot}
use Rattle.qm_machine.specs.Grammar.{root_of, numbered, only_number}
use Rattle.qm_lines.specs.Parsed.{lent}
use Rattle.qm_lines.proofs.Readings.{unread-of}
use Rattle.qm_lines.proofs.Steps.{not_empty}
use Rattle.qm_lines.proofs.parse.commands.root.Goals as goal

pub returns-in_err-handle : goal.returns-in_err-handle
returns-in_err-handle c =
    let exit = err_from_is_err_and c.from_residual.result c.from_residual.ensures.1 in
    rw (exit.1, exit.2) (unread-of (option_map BatchRoot) refl (only_number (lent c.args.words.now)) (root_of (lent c.args.words.now)) (not_empty (numbered BatchRoot) root_of (λ a words. refl) c.args.words.now c.if-is_empty.ensures) _ c.in_err-handle.ensures)

pub returns : goal.returns
returns c = ap (option_map BatchRoot) c.in_ok-handle.ensures ∙ not_empty (numbered BatchRoot) root_of (λ a words. refl) c.args.words.now c.if-is_empty.ensures
