use Rattle.std.proofs.Common.{[], ◌∙◌, ap, sym, map, append-nil}
use Rattle.std.proofs.lemmas.Result.{IfOk-weaker}
use Rattle.qm_model.specs.Keys.{contains_key}
use Rattle.qm_step.specs.Links.{keys_in, keys_of_kind, AreRelinked}
use Rattle.qm_step.specs.OrderedViews.{ordered_touches}
use Rattle.qm_step.specs.PlanViews.{linked_view}
use Rattle.qm_step.specs.declared.links.Kind.TheVariants.{Update}
use Rattle.qm_step.proofs.links.add_relinked.Goals as goal

pub returns : goal.returns
returns g c = IfOk-weaker c.add_links-2.result _ _ (λ done two base stand.
    let key = g.K.ByteString.bytes in
    let value = g.V.Value.ByteString.bytes in
    let show = ordered_touches key value in
    let front = show c.args.touches.now.items in
    let before = keys_of_kind Update (map (linked_view key value) c.args.linked.now) in
    let start : AreRelinked base (keys_in c.args.afters.now.entries) front before [] front (keys_in c.in_ok-written.written.entries) = record {
      touches = sym (append-nil front);
      written = λ x. c.in_ok-written.ensures x ∙ ap (λ ks. contains_key ks x) (sym (append-nil before));
    } in
    (two base front before _ stand (c.in_ok-add_links.ensures base front before [] stand start)).touches) c.add_links-2.ensures
