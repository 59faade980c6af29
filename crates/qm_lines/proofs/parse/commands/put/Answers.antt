use Rattle.std.proofs.Common.{refl}
use Rattle.std.proofs.lemmas.Result.{err_from_is_err_and}
use Rattle.qm_machine.specs.Lines.{Put}
use Rattle.qm_machine.specs.Grammar.{number_of, key_of, value_of, put_of}
use Rattle.qm_lines.proofs.Steps.{three-first_err, three-second_err, three-third_err, three-read}
use Rattle.qm_lines.proofs.parse.commands.put.Goals as goal

pub returns-in_err-handle : goal.returns-in_err-handle
returns-in_err-handle c =
    let exit = err_from_is_err_and c.from_residual.result c.from_residual.ensures.1 in
    rw (exit.1, exit.2) (three-first_err number_of key_of value_of Put put_of (λ a b c. refl) c.args.words.now _ c.in-len3.len_at_least c.in-len3.len_below _ c.in_err-handle.ensures)

pub returns-in_err-key : goal.returns-in_err-key
returns-in_err-key c =
    let exit = err_from_is_err_and c.from_residual-in_err-key.result c.from_residual-in_err-key.ensures.1 in
    rw (exit.1, exit.2) (three-second_err number_of key_of value_of Put put_of (λ a b c. refl) c.args.words.now _ c.in-len3.len_at_least c.in-len3.len_below _ c.in_ok-handle.ensures _ c.in_err-key.ensures)

pub returns-in_err-value : goal.returns-in_err-value
returns-in_err-value c =
    let exit = err_from_is_err_and c.from_residual-in_err-value.result c.from_residual-in_err-value.ensures.1 in
    rw (exit.1, exit.2) (three-third_err number_of key_of value_of Put put_of (λ a b c. refl) c.args.words.now _ c.in-len3.len_at_least c.in-len3.len_below _ c.in_ok-handle.ensures _ c.in_ok-key.ensures _ c.in_err-value.ensures)

pub returns : goal.returns
returns c = three-read number_of key_of value_of Put put_of (λ a b c. refl) c.args.words.now _ c.in-len3.len_at_least c.in-len3.len_below _ c.in_ok-handle.ensures _ c.in_ok-key.ensures _ c.in_ok-value.ensures
