use Rattle.std.proofs.Common.{arith, refl}
use Rattle.std.proofs.lemmas.Result.{err_from_is_err_and}
use Rattle.qm_machine.specs.Lines.{Prove}
use Rattle.qm_machine.specs.Grammar.{number_of, positive_of, prove_of}
use Rattle.qm_lines.proofs.Steps.{under_three, over_three, three-first_err, three-second_err, three-third_err, three-read}
use Rattle.qm_lines.proofs.parse.commands.prove.Goals.{in_default-via-then-words-lt3, in_default-via-else-words-lt3+else-words-lt4}
use Rattle.qm_lines.proofs.parse.commands.prove.Goals as goal

pub returns-in_err-size : goal.returns-in_err-size
returns-in_err-size c =
    let exit = err_from_is_err_and c.from_residual.result c.from_residual.ensures.1 in
    rw (exit.1, exit.2) (three-first_err number_of number_of positive_of Prove prove_of (λ a b c. refl) c.args.words.now _ c.in-len3.len_at_least c.in-len3.len_below _ c.in_err-size.ensures)

pub returns-in_err-start : goal.returns-in_err-start
returns-in_err-start c =
    let exit = err_from_is_err_and c.from_residual-in_err-start.result c.from_residual-in_err-start.ensures.1 in
    rw (exit.1, exit.2) (three-second_err number_of number_of positive_of Prove prove_of (λ a b c. refl) c.args.words.now _ c.in-len3.len_at_least c.in-len3.len_below _ c.in_ok-size.ensures _ c.in_err-start.ensures)

pub returns-in_err-most : goal.returns-in_err-most
returns-in_err-most c =
    let exit = err_from_is_err_and c.from_residual-in_err-most.result c.from_residual-in_err-most.ensures.1 in
    rw (exit.1, exit.2) (three-third_err number_of number_of positive_of Prove prove_of (λ a b c. refl) c.args.words.now _ c.in-len3.len_at_least c.in-len3.len_below _ c.in_ok-size.ensures _ c.in_ok-start.ensures _ c.in_err-most.ensures)

pub returns : goal.returns
returns c = three-read number_of number_of positive_of Prove prove_of (λ a b c. refl) c.args.words.now _ c.in-len3.len_at_least c.in-len3.len_below _ c.in_ok-size.ensures _ c.in_ok-start.ensures _ c.in_ok-most.ensures

pub returns-in_default : goal.returns-in_default
returns-in_default c = elim c.in_default.branch [
  | in_default-via-then-words-lt3 w ↦ under_three prove_of refl (λ a. refl) (λ a b. refl) c.args.words.now (grind arith)
  | in_default-via-else-words-lt3+else-words-lt4 w ↦ over_three prove_of (λ a b c d words. refl) c.args.words.now (grind arith)
]
