use Rattle.std.proofs.Common.{◌∙◌, Option, Some, ap, refl, subst}
use Rattle.std.proofs.lemmas.Result.{err_from_is_err_and}
use Rattle.std.proofs.lemmas.Iterator.Adapters.{option_map_id}
use Rattle.qm_model.specs.Operations.{Bytes}
use Rattle.qm_model.specs.Writes.{Write}
use Rattle.qm_machine.specs.Grammar.{key_of, metadata_of, write_of_words}
use Rattle.qm_lines.specs.Parsed.{Unreads, lent}
use Rattle.qm_lines.proofs.Steps.{two-first_err, two-second_err, two-read}
use Rattle.qm_lines.proofs.parse.staged.write.Goals as goal

abbrev made : Bytes → Option Bytes → Write
made key value = record { key = key; value = value }

pub returns-in_err-key : goal.returns-in_err-key
returns-in_err-key c =
    let exit = err_from_is_err_and c.from_residual-in_err-key.result c.from_residual-in_err-key.ensures.1 in
    let split = ap lent c.as_slice.ensures.value ∙ c.in_ok-words.ensures in
    rw (exit.1, exit.2) (subst (λ ws. Unreads c.in_err-key.field-0.0 (write_of_words ws)) split (two-first_err key_of metadata_of made write_of_words (λ a b. refl) c.as_slice.result.now _ c.in-len2.len_at_least c.in-len2.len_below _ c.in_err-key.ensures))

pub returns-in_err-value : goal.returns-in_err-value
returns-in_err-value c =
    let exit = err_from_is_err_and c.from_residual-in_err-value.result c.from_residual-in_err-value.ensures.1 in
    let split = ap lent c.as_slice.ensures.value ∙ c.in_ok-words.ensures in
    rw (exit.1, exit.2) (subst (λ ws. Unreads c.in_err-value.field-0.0 (write_of_words ws)) split (two-second_err key_of metadata_of made write_of_words (λ a b. refl) c.as_slice.result.now _ c.in-len2.len_at_least c.in-len2.len_below _ c.in_ok-key.ensures _ c.in_err-value.ensures))

pub returns : goal.returns
returns c =
    let split = ap lent c.as_slice.ensures.value ∙ c.in_ok-words.ensures in
    ap (λ v. Some (made c.in_ok-key.key v)) (option_map_id c.in_ok-value.value)
    ∙ two-read key_of metadata_of made write_of_words (λ a b. refl) c.as_slice.result.now _ c.in-len2.len_at_least c.in-len2.len_below _ c.in_ok-key.ensures _ c.in_ok-value.ensures ∙ ap write_of_words split
