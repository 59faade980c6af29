use Rattle.std.proofs.Common.{◌≡◌, ◌∙◌, ap, refl, arith, drop, length, map, vec_len}
use Rattle.std.proofs.lemmas.Result.{err_from_is_err_and}
use Rattle.qm_machine.specs.Grammar.{each_write}
use Rattle.qm_lines.specs.Parsed.{byte_slot, lent}
use Rattle.qm_lines.proofs.Readings.{unread-of}
use Rattle.qm_lines.proofs.Resolutions.{with_others, lent_behind}
use Rattle.qm_lines.proofs.parse.staged.resolution.Goals as goal

pub returns-in_err-others : goal.returns-in_err-others
returns-in_err-others c =
    let exit = err_from_is_err_and c.from_residual-in_err-others.result c.from_residual-in_err-others.ensures.1 in
    let slots = c.in_ok-slots.slots in
    let count : vec_len slots ≡ length slots.items = omega (arith, slots.ok.0) in
    rw (exit.1, exit.2) (unread-of (with_others (map byte_slot slots.items)) refl _ _
    (ap (with_others (map byte_slot slots.items)) (ap each_write (lent_behind c.args.words.now c.len.result) ∙ ap (λ n. each_write (drop n (lent c.args.words.now))) (c.len.ensures ∙ count)) ∙ c.in_ok-slots.ensures.slots)
    _ c.in_err-others.ensures)

pub returns : goal.returns
returns c =
    let slots = c.in_ok-slots.slots in
    let count : vec_len slots ≡ length slots.items = omega (arith, slots.ok.0) in
    ap (with_others (map byte_slot slots.items)) (c.in_ok-others.ensures ∙ ap each_write (lent_behind c.args.words.now c.len.result) ∙ ap (λ n. each_write (drop n (lent c.args.words.now))) (c.len.ensures ∙ count))
    ∙ c.in_ok-slots.ensures.slots
