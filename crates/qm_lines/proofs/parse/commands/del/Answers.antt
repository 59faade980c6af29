use Rattle.std.proofs.Common.{refl}
use Rattle.std.proofs.lemmas.Result.{err_from_is_err_and}
use Rattle.qm_machine.specs.Lines.{Del}
use Rattle.qm_machine.specs.Grammar.{number_of, key_of, del_of}
use Rattle.qm_lines.proofs.Steps.{two-first_err, two-second_err, two-read}
use Rattle.qm_lines.proofs.parse.commands.del.Goals as goal

pub returns-in_err-handle : goal.returns-in_err-handle
returns-in_err-handle c =
    let exit = err_from_is_err_and c.from_residual.result c.from_residual.ensures.1 in
    rw (exit.1, exit.2) (two-first_err number_of key_of Del del_of (λ a b. refl) c.args.words.now _ c.in-len2.len_at_least c.in-len2.len_below _ c.in_err-handle.ensures)

pub returns-in_err-key : goal.returns-in_err-key
returns-in_err-key c =
    let exit = err_from_is_err_and c.from_residual-in_err-key.result c.from_residual-in_err-key.ensures.1 in
    rw (exit.1, exit.2) (two-second_err number_of key_of Del del_of (λ a b. refl) c.args.words.now _ c.in-len2.len_at_least c.in-len2.len_below _ c.in_ok-handle.ensures _ c.in_err-key.ensures)

pub returns : goal.returns
returns c = two-read number_of key_of Del del_of (λ a b. refl) c.args.words.now _ c.in-len2.len_at_least c.in-len2.len_below _ c.in_ok-handle.ensures _ c.in_ok-key.ensures
