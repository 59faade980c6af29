use Rattle.std.proofs.Common.{◌++◌, ◌∙◌, ap, ap₂, sym, map}
use Rattle.std.specs.Prelude.{filter_map}
use Rattle.std.proofs.lemmas.List.Elements.{filter_map-append, All-same}
use Rattle.qm_model.specs.Keys.{contains_key, predecessor, without}
use Rattle.qm_model.specs.Writes.{last_writes}
use Rattle.qm_model.proofs.OrderedWrites.{created, deleted}
use Rattle.qm_step.specs.Links.{after_of, before_of, next_of, keys_in, keys_of_kind, of_kind, touch_of, relinked_touches, IsStanding}
use Rattle.qm_step.specs.Rings.{linked_in, neighbour_in}
use Rattle.qm_step.specs.declared.links.Kind.{Kind}
use Rattle.qm_step.specs.declared.links.Kind.TheVariants.{Delete, Update, Create}
use Rattle.qm_step.proofs.LinksMade.{filter_map-twice, filter_map-map, gone-keys, put-keys, new-keys, neighbours-stand}
use Rattle.qm_step.proofs.LinksWhole.{written-touches}
use Rattle.std.proofs.lemmas.Result.{IfOk-from_err, IfOk-weaker}
use Rattle.qm_step.proofs.links.linked_touches.Goals as goal

pub returns : goal.returns
returns g c = IfOk-weaker c.written_touches.result _ _ (λ touches made base ws ring writes_are neighbours_are.
    let key = g.K.ByteString.bytes in
    let value = g.V.Value.ByteString.bytes in
    let us = last_writes ws in
    let gone = keys_in c.in_ok-deleted.deleted.entries in
    let befores = keys_in c.in_ok-befores.befores.entries in
    let afters = keys_in c.in_ok-afters.afters.entries in
    let find = predecessor befores in
    let written_is = λ (kind : Kind). ap (λ vs. map (touch_of afters) (of_kind kind vs)) writes_are in
    let stand = c.in_ok-befores.ensures.standing base (All-same (IsStanding base) _ (filter_map (neighbour_in base) us) neighbours_are (neighbours-stand base us)) in
    made base stand
    ∙ ap₂ (λ a b. a ++ b) (ap₂ (λ a b. a ++ b) (ap₂ (λ a b. a ++ b) (written_is Delete) (written_is Update)) (written_is Create))
    (ap₂ (relinked_touches base afters) (ap (keys_of_kind Update) writes_are ∙ put-keys base us)
    (ap₂ (λ a b. filter_map find a ++ filter_map find b) (ap (keys_of_kind Create) writes_are ∙ new-keys base us) (ap (keys_of_kind Delete) writes_are ∙ gone-keys base us)
    ∙ sym (filter_map-append find (created base ws) (deleted base ws))))
    ∙ written-touches base ws ring gone befores afters
    (λ x. c.in_ok-deleted.ensures x ∙ ap (λ ks. contains_key ks x) (ap (keys_of_kind Delete) writes_are ∙ gone-keys base us))
    (λ x. c.in_ok-befores.ensures.keys x ∙ ap (λ ks. contains_key (without gone ks) x) (ap (filter_map before_of) neighbours_are ∙ filter_map-twice before_of (neighbour_in base) us))
    (λ x. c.in_ok-afters.ensures.keys x
    ∙ ap₂ (λ ns ms. contains_key (without gone ns ++ without gone ms) x)
    (ap (filter_map after_of) writes_are ∙ filter_map-map after_of (linked_in base) us)
    (ap (filter_map next_of) neighbours_are ∙ filter_map-twice next_of (neighbour_in base) us))) c.written_touches.ensures

pub returns-in_err-deleted : goal.returns-in_err-deleted
returns-in_err-deleted g c = IfOk-from_err c.from_residual.result _ c.from_residual.ensures.0

pub returns-in_err-befores : goal.returns-in_err-befores
returns-in_err-befores g c = IfOk-from_err c.from_residual-in_err-befores.result _ c.from_residual-in_err-befores.ensures.0

pub returns-in_err-afters : goal.returns-in_err-afters
returns-in_err-afters g c = IfOk-from_err c.from_residual-in_err-afters.result _ c.from_residual-in_err-afters.ensures.0
