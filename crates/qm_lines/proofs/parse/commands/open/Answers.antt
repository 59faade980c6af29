use Rattle.std.proofs.Common.{◌∙◌, arith, codes, refl, sym, Some}
use Rattle.std.proofs.lemmas.Result.{err_from_is_err_and}
use Rattle.qm_machine.specs.Lines.{Open}
use Rattle.qm_machine.specs.Grammar.{open_of, named_number}
use Rattle.qm_lines.proofs.Steps.{missing, one-err, one-read, over_one}
use Rattle.qm_lines.proofs.parse.commands.open.Goals as goal

pub returns-in_default : goal.returns-in_default
returns-in_default c = over_one open_of (λ a b words. refl) c.args.words.now (omega arith)

pub returns-in_err-bound-in-len1 : goal.returns-in_err-bound-in-len1
returns-in_err-bound-in-len1 c =
    let exit = err_from_is_err_and c.from_residual.result c.from_residual.ensures.1 in
    rw (exit.1, exit.2) (one-err (named_number (codes "max=")) (λ n. Open (Some n)) open_of (λ a. refl) c.args.words.now _ c.in-len1.len_at_least c.in-len1.len_below _
    (missing c.named_number.result _ c.in_err-bound-in-len1.ensures.value _ c.named_number.ensures))

pub returns-in_ok-bound-in-len1 : goal.returns-in_ok-bound-in-len1
returns-in_ok-bound-in-len1 c =
    one-read (named_number (codes "max=")) (λ n. Open (Some n)) open_of (λ a. refl) c.args.words.now _ c.in-len1.len_at_least c.in-len1.len_below
    _ (sym c.in_ok-bound-in-len1.ensures.ok_part ∙ c.named_number.ensures)
