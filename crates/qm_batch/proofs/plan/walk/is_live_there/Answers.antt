use Rattle.std.proofs.Common.{◌∙◌, ap, sym, map}
use Rattle.std.specs.Prelude.{option_map}
use Rattle.qm_step.specs.Touches.{is_there}
use Rattle.qm_step.specs.Views.{change_view}
use Rattle.qm_batch.proofs.PlanFinds.{bucket-there}
use Rattle.qm_step.proofs.Steps.{layer-stands, lent-stands}
use Rattle.qm_batch.proofs.plan.walk.is_live_there.Goals as goal

pub returns-in-Some : goal.returns-in-Some
returns-in-Some g c = λ lent base value next indexed from is.
    let key = c.args.key.now in
    let bytes = g.U.Value.ByteString.bytes in
    let layers = map (λ l. l.value) c.args.layers.now in
    c.is_left_at.ensures bytes ∙ ap (λ o. is_there o c.args.at)
    (sym (layer-stands layers lent base from key _ (change_view bytes c.in-Some.entry.now)
    (ap (option_map (λ p. (p.0.now, change_view bytes p.1.now))) (sym c.in-Some.is) ∙ c.newest.ensures)))

pub returns-in-None : goal.returns-in-None
returns-in-None g c = λ lent base value next indexed from is.
    let key = c.args.key.now in
    let bytes = g.U.Value.ByteString.bytes in
    let entries = g.I.Unordered.entries c.args.index.now in
    let layers = map (λ l. l.value) c.args.layers.now in
    c.is_among.ensures
    ∙ bucket-there g.I.Unordered.index_key entries layers lent base indexed from key value next c.args.at is c.bucket.result.now
    c.bucket.ensures.value
    ∙ ap (λ o. is_there o c.args.at)
    (sym (lent-stands layers lent base from key
    (ap (option_map (λ p. (p.0.now, change_view bytes p.1.now))) (sym c.in-None.is) ∙ c.newest.ensures)))
