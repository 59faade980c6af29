use Rattle.std.proofs.Common.{◌∙◌, ◌++◌, ◌&&◌, ap, ap₂, sym, map}
use Rattle.std.specs.Prelude.{filter_map, not}
use Rattle.qm_model.specs.Keys.{contains_key, successor}
use Rattle.qm_step.specs.Moves.{place_before, rewritten_naming}
use Rattle.qm_step.specs.OrderedViews.{ordered_touches}
use Rattle.qm_step.specs.PlanViews.{decided_views}
use Rattle.qm_step.specs.Touches.{operations_of}
use Rattle.qm_step.proofs.MovesAll.{nexts-shown, gone-shown, keys-shown, found-stand, moves-are}
use Rattle.qm_step.proofs.MovesMaps.{has-listed}
use Rattle.std.proofs.lemmas.Result.{IfOk-from_err}
use Rattle.qm_step.proofs.moves.linked_moves.Goals as goal

pub returns : goal.returns
returns g c = λ list long ring from decided distinct is_found.
    let key = g.K.ByteString.bytes in
    let value = g.V.Value.ByteString.bytes in
    let made = ordered_touches key value c.args.made.now in
    let ds = decided_views key value c.args.decided.now in
    let keys = c.in_ok-keys.keys.entries in
    let broken = c.in_ok-broken.broken.entries in
    let found = c.args.found.now in
    let names = map (λ e. e.0.now) keys in
    c.in_ok-add_rewritten.ensures.made
    ∙ ap (λ ts. ts ++ filter_map (λ e. rewritten_naming (successor names (key e.1.now.1.key)) (place_before c.args.size made e.1.now.0) (key e.1.now.1.key) (value e.1.now.1.value)) broken) c.in_ok-touches.ensures
    ∙ moves-are list made c.args.size long ds ring from decided distinct names
    (λ x. sym (has-listed keys x) ∙ c.in_ok-keys.ensures.has x ∙ ap₂ (λ a b. contains_key a x && not (contains_key b x)) (nexts-shown key value c.args.decided.now) (gone-shown key value c.args.decided.now))
    key value found is_found broken c.add_rewritten.ensures.ordered
    (λ x. sym (has-listed broken x) ∙ c.in_ok-broken.ensures.has x ∙ ap (λ ks. contains_key (map (λ f. key f.1.key) found) x && not (contains_key ks x)) (keys-shown key value c.args.decided.now))
    (c.in_ok-broken.ensures.stand (list ++ operations_of made) (found-stand list made c.args.size long ds ring from decided distinct key value found is_found))

pub returns-in_err-keys : goal.returns-in_err-keys
returns-in_err-keys g c = IfOk-from_err c.from_residual.result _ c.from_residual.ensures.0

pub returns-in_err-broken : goal.returns-in_err-broken
returns-in_err-broken g c = IfOk-from_err c.from_residual-in_err-broken.result _ c.from_residual-in_err-broken.ensures.0

pub returns-in_err-touches : goal.returns-in_err-touches
returns-in_err-touches g c = IfOk-from_err c.from_residual-in_err-touches.result _ c.from_residual-in_err-touches.ensures.0

pub returns-in_err-add_rewritten : goal.returns-in_err-add_rewritten
returns-in_err-add_rewritten g c = IfOk-from_err c.from_residual-in_err-add_rewritten.result _ c.from_residual-in_err-add_rewritten.ensures.0
