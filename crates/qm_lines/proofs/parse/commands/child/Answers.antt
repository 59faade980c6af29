use Rattle.std.proofs.Common.{◌∙◌, arith, codes, refl, sym, None, Some}
use Rattle.std.proofs.lemmas.Result.{err_from_is_err_and}
use Rattle.qm_machine.specs.Lines.{Child}
use Rattle.qm_machine.specs.Grammar.{child_of, named_number, number_of}
use Rattle.qm_lines.proofs.Steps.{missing, no_word, one-err, one-read, over_two, two-first_err, two-last_err, two-read}
use Rattle.qm_lines.proofs.parse.commands.child.Goals.{in_default-via-then-words-lt1, in_default-via-else-words-lt1+else-words-lt2+else-words-lt3}
use Rattle.qm_lines.proofs.parse.commands.child.Goals as goal

pub returns-in_default : goal.returns-in_default
returns-in_default c = elim c.in_default.branch [
  | in_default-via-then-words-lt1 w ↦ no_word child_of refl c.args.words.now (grind arith)
  | in_default-via-else-words-lt1+else-words-lt2+else-words-lt3 w ↦ over_two child_of (λ a b c words. refl) c.args.words.now (grind arith)
]

pub returns-in_err-number-in-len1 : goal.returns-in_err-number-in-len1
returns-in_err-number-in-len1 c =
    let exit = err_from_is_err_and c.from_residual.result c.from_residual.ensures.1 in
    rw (exit.1, exit.2) (one-err number_of (λ h. Child h None) child_of (λ a. refl) c.args.words.now _ c.in-len1.len_at_least c.in-len1.len_below _ c.in_err-number-in-len1.ensures)

pub returns-in_ok-number-in-len1 : goal.returns-in_ok-number-in-len1
returns-in_ok-number-in-len1 c = one-read number_of (λ h. Child h None) child_of (λ a. refl) c.args.words.now _ c.in-len1.len_at_least c.in-len1.len_below _ c.in_ok-number-in-len1.ensures

pub returns-in_err-kept-in-len2 : goal.returns-in_err-kept-in-len2
returns-in_err-kept-in-len2 c =
    let exit = err_from_is_err_and c.from_residual-in_err-kept-in-len2.result c.from_residual-in_err-kept-in-len2.ensures.1 in
    rw (exit.1, exit.2) (two-last_err number_of (named_number (codes "keep=")) (λ h n. Child h (Some n)) child_of (λ a b. refl) c.args.words.now _ c.in-len2.len_at_least c.in-len2.len_below _
    (missing c.named_number.result _ c.in_err-kept-in-len2.ensures.value _ c.named_number.ensures))

pub returns-in_err-number-in-len2 : goal.returns-in_err-number-in-len2
returns-in_err-number-in-len2 c =
    let exit = err_from_is_err_and c.from_residual-in_err-number-in-len2.result c.from_residual-in_err-number-in-len2.ensures.1 in
    rw (exit.1, exit.2) (two-first_err number_of (named_number (codes "keep=")) (λ h n. Child h (Some n)) child_of (λ a b. refl) c.args.words.now _ c.in-len2.len_at_least c.in-len2.len_below _ c.in_err-number-in-len2.ensures)

pub returns-in_ok-number-in-len2 : goal.returns-in_ok-number-in-len2
returns-in_ok-number-in-len2 c =
    two-read number_of (named_number (codes "keep=")) (λ h n. Child h (Some n)) child_of (λ a b. refl) c.args.words.now _ c.in-len2.len_at_least c.in-len2.len_below
    _ c.in_ok-number-in-len2.ensures _ (sym c.in_ok-kept-in-len2.ensures.ok_part ∙ c.named_number.ensures)
