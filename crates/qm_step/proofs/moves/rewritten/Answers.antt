use Rattle.std.proofs.lemmas.Result.{IfOk-from_err}
use Rattle.std.proofs.Common.{◌∙◌, ap, sym, map}
use Rattle.std.specs.Prelude.{option_map}
use Rattle.qm_model.specs.Keys.{successor}
use Rattle.qm_step.specs.Moves.{place_before}
use Rattle.qm_step.specs.OrderedViews.{ordered_touches, ordered_update}
use Rattle.qm_step.proofs.MovesLoops.{rewritten-some, rewritten-none}
use Rattle.qm_step.proofs.moves.rewritten.Goals as goal

pub returns-in-Some : goal.returns-in-Some
returns-in-Some g c =
    let key = g.K.ByteString.bytes in
    let value = g.V.Value.ByteString.bytes in
    let made = ordered_touches key value c.args.made.now in
    rewritten-some (successor (map (λ e. e.0.now) c.args.keys.now.entries) (key c.args.found.now.1.key)) (key c.args.found.now.1.key) (value c.args.found.now.1.value) (ordered_update key value c.in-Some.update) c.place_before.result (place_before c.args.size made c.args.found.now.0)
    (sym (ap (option_map (ordered_update key value)) c.in-Some.is) ∙ c.in_ok-update.ensures) (c.place_before.ensures ∙ ap (place_before c.args.size made) c.get.ensures)

pub returns-in_err-update : goal.returns-in_err-update
returns-in_err-update g c = IfOk-from_err c.from_residual.result _ c.from_residual.ensures.0

pub returns-in-None : goal.returns-in-None
returns-in-None g c =
    let key = g.K.ByteString.bytes in
    let value = g.V.Value.ByteString.bytes in
    rewritten-none (successor (map (λ e. e.0.now) c.args.keys.now.entries) (key c.args.found.now.1.key)) (key c.args.found.now.1.key) (value c.args.found.now.1.value) (place_before c.args.size (ordered_touches key value c.args.made.now) c.args.found.now.0)
    (sym (ap (option_map (ordered_update key value)) c.in-None.is) ∙ c.in_ok-update.ensures)
