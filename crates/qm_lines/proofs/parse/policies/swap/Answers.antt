use Rattle.std.proofs.Common.{◌∙◌, ap, refl, subst}
use Rattle.std.proofs.lemmas.Result.{err_from_is_err_and}
use Rattle.qm_machine.specs.Grammar.{value_of, swap_of_words}
use Rattle.qm_lines.specs.Parsed.{Unreads, lent}
use Rattle.qm_lines.proofs.Steps.{two-first_err, two-second_err, two-read}
use Rattle.qm_lines.proofs.parse.policies.swap.Goals as goal

pub returns-in_err-from : goal.returns-in_err-from
returns-in_err-from c =
    let exit = err_from_is_err_and c.from_residual-in_err-from.result c.from_residual-in_err-from.ensures.1 in
    let split = ap lent c.as_slice.ensures.value ∙ c.in_ok-words.ensures in
    rw (exit.1, exit.2) (subst (λ ws. Unreads c.in_err-from.field-0.0 (swap_of_words ws)) split (two-first_err value_of value_of (λ from to. (from, to)) swap_of_words (λ a b. refl) c.as_slice.result.now _ c.in-len2.len_at_least c.in-len2.len_below _ c.in_err-from.ensures))

pub returns-in_err-to : goal.returns-in_err-to
returns-in_err-to c =
    let exit = err_from_is_err_and c.from_residual-in_err-to.result c.from_residual-in_err-to.ensures.1 in
    let split = ap lent c.as_slice.ensures.value ∙ c.in_ok-words.ensures in
    rw (exit.1, exit.2) (subst (λ ws. Unreads c.in_err-to.field-0.0 (swap_of_words ws)) split (two-second_err value_of value_of (λ from to. (from, to)) swap_of_words (λ a b. refl) c.as_slice.result.now _ c.in-len2.len_at_least c.in-len2.len_below _ c.in_ok-from.ensures _ c.in_err-to.ensures))

pub returns : goal.returns
returns c =
    let split = ap lent c.as_slice.ensures.value ∙ c.in_ok-words.ensures in
    two-read value_of value_of (λ from to. (from, to)) swap_of_words (λ a b. refl) c.as_slice.result.now _ c.in-len2.len_at_least c.in-len2.len_below _ c.in_ok-from.ensures _ c.in_ok-to.ensures ∙ ap swap_of_words split
