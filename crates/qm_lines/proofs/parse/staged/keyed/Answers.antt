use Rattle.std.proofs.Common.{◌∙◌, Some, ap, refl}
use Rattle.std.proofs.lemmas.List.{map-id}
use Rattle.std.proofs.lemmas.Result.{err_from_is_err_and}
use Rattle.qm_machine.specs.Lines.{Expand, Stage}
use Rattle.qm_machine.specs.Grammar.{keyed_of, number_of, some_keys}
use Rattle.qm_lines.specs.Parsed.{keyed_line}
use Rattle.qm_lines.proofs.Steps.{headed-first_err, headed-rest_err, headed-read}
use Rattle.qm_lines.proofs.parse.staged.keyed.Goals as goal

pub returns-in_err-handle : goal.returns-in_err-handle
returns-in_err-handle c =
    let exit = err_from_is_err_and c.from_residual.result c.from_residual.ensures.1 in
    rw (exit.1, exit.2) (headed-first_err number_of some_keys (keyed_line c.args.form) (keyed_of (keyed_line c.args.form)) (λ a ws. refl) c.args.words.now c.in-Some.handle.now c.in-Some.words.now c.in-Some.ensures.cases.0 _ c.in_err-handle.ensures)

pub returns-in_err-keys : goal.returns-in_err-keys
returns-in_err-keys c =
    let exit = err_from_is_err_and c.from_residual-in_err-keys.result c.from_residual-in_err-keys.ensures.1 in
    rw (exit.1, exit.2) (headed-rest_err number_of some_keys (keyed_line c.args.form) (keyed_of (keyed_line c.args.form)) (λ a ws. refl) c.args.words.now c.in-Some.handle.now c.in-Some.words.now c.in-Some.ensures.cases.0 _ c.in_ok-handle.ensures _ c.in_err-keys.ensures)

pub returns-in-Stage : goal.returns-in-Stage
returns-in-Stage c = rw c.in-Stage.is (ap (λ ks. Some (Stage c.in_ok-handle.handle ks)) (map-id c.in_ok-keys.keys.items) ∙ headed-read number_of some_keys Stage (keyed_of Stage) (λ a ws. refl) c.args.words.now c.in-Some.handle.now c.in-Some.words.now c.in-Some.ensures.cases.0 _ c.in_ok-handle.ensures _ c.in_ok-keys.ensures)

pub returns-in-Expand : goal.returns-in-Expand
returns-in-Expand c = rw c.in-Expand.is (ap (λ ks. Some (Expand c.in_ok-handle.handle ks)) (map-id c.in_ok-keys.keys.items) ∙ headed-read number_of some_keys Expand (keyed_of Expand) (λ a ws. refl) c.args.words.now c.in-Some.handle.now c.in-Some.words.now c.in-Some.ensures.cases.0 _ c.in_ok-handle.ensures _ c.in_ok-keys.ensures)
