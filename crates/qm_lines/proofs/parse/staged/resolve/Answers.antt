use Rattle.std.proofs.Common.{◌∙◌, ap, refl, Some}
use Rattle.std.proofs.lemmas.Iterator.Adapters.{option_map_id}
use Rattle.std.proofs.lemmas.Result.{err_from_is_err_and}
use Rattle.qm_machine.specs.Lines.{Resolve}
use Rattle.qm_machine.specs.Grammar.{resolution_of}
use Rattle.qm_lines.specs.Parsed.{resolution_view}
use Rattle.qm_lines.specs.Policies.{policy_view}
use Rattle.qm_lines.proofs.Readings.{unread-of}
use Rattle.qm_lines.proofs.Resolutions.{lent_behind, resolve-lent, resolve-lent_err, resolved}
use Rattle.qm_lines.proofs.parse.staged.resolve.Goals as goal

pub returns-in_err-resolution : goal.returns-in_err-resolution
returns-in_err-resolution c =
    let exit = err_from_is_err_and c.from_residual.result c.from_residual.ensures.1 in
    rw (exit.1, exit.2) (resolve-lent_err c.args.words.now c.in-len3-up.len_at_least _ (ap resolution_of (lent_behind c.args.words.now 3)) _ c.in_err-resolution.ensures)

pub returns-in_err-m : goal.returns-in_err-m
returns-in_err-m c =
    let exit = err_from_is_err_and c.from_residual-in_err-m.result c.from_residual-in_err-m.ensures.1 in
    rw (exit.1, exit.2) (unread-of (resolved (Some (resolution_view c.in_ok-resolution.resolution))) refl _ _
    (resolve-lent c.args.words.now _ c.in-len3-up.len_at_least _ refl _ (c.in_ok-resolution.ensures ∙ ap resolution_of (lent_behind c.args.words.now 3)))
    _ c.in_err-m.ensures)

pub returns : goal.returns
returns c =
    let m = c.in_ok-m.m in
    let r = resolution_view c.in_ok-resolution.resolution in
    ap (λ v. Some (Resolve m.handle (policy_view m.policy) v r.0 r.1)) (option_map_id m.metadata)
    ∙ resolve-lent c.args.words.now _ c.in-len3-up.len_at_least _ c.in_ok-m.ensures _ (c.in_ok-resolution.ensures ∙ ap resolution_of (lent_behind c.args.words.now 3))
