use Rattle.std.proofs.Common.{refl}
use Rattle.std.proofs.lemmas.Result.{err_from_is_err_and}
use Rattle.qm_machine.specs.Lines.{Current, Chunks}
use Rattle.qm_machine.specs.Grammar.{number_of, positive_of, chunks_of}
use Rattle.qm_lines.proofs.Steps.{two-first_err, two-second_err, two-read}
use Rattle.qm_lines.proofs.parse.commands.chunks.Goals as goal

pub returns-in_err-start : goal.returns-in_err-start
returns-in_err-start c =
    let exit = err_from_is_err_and c.from_residual.result c.from_residual.ensures.1 in
    rw (exit.1, exit.2) (two-first_err number_of positive_of (λ start most. Current (Chunks start most)) chunks_of (λ a b. refl) c.args.words.now _ c.in-len2.len_at_least c.in-len2.len_below _ c.in_err-start.ensures)

pub returns-in_err-most : goal.returns-in_err-most
returns-in_err-most c =
    let exit = err_from_is_err_and c.from_residual-in_err-most.result c.from_residual-in_err-most.ensures.1 in
    rw (exit.1, exit.2) (two-second_err number_of positive_of (λ start most. Current (Chunks start most)) chunks_of (λ a b. refl) c.args.words.now _ c.in-len2.len_at_least c.in-len2.len_below _ c.in_ok-start.ensures _ c.in_err-most.ensures)

pub returns : goal.returns
returns c = two-read number_of positive_of (λ start most. Current (Chunks start most)) chunks_of (λ a b. refl) c.args.words.now _ c.in-len2.len_at_least c.in-len2.len_below _ c.in_ok-start.ensures _ c.in_ok-most.ensures
