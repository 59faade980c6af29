use Rattle.std.proofs.Common.{◌≡◌, ◌++◌, Some, ap, refl, subst}
use Rattle.std.specs.Prelude.{option_to_list}
use Rattle.std.proofs.lemmas.List.Elements.{All-contains}
use Rattle.qm_model.specs.Keys.{predecessor}
use Rattle.qm_step.specs.Changes.{update_of}
use Rattle.qm_step.specs.Links.{keys_in, AreRelinked}
use Rattle.qm_step.specs.OrderedViews.{ordered_touch, ordered_touches, ordered_update}
use Rattle.qm_step.specs.Views.{read_view}
use Rattle.qm_step.proofs.LinksSets.{looked, keys-more, push-shown}
use Rattle.qm_step.proofs.LinksAgain.{nearest-key, relinked-next, relinked-stays}
use Rattle.std.proofs.lemmas.Result.{on_ok_weaker}
use Rattle.qm_step.proofs.links.add_link.Goals as goal

pub returns : goal.returns
returns g c = on_ok_weaker c.put.result (λ put base front before keys stand so_far.
    let key = g.K.ByteString.bytes in
    let value = g.V.Value.ByteString.bytes in
    let found = c.in-Some.found.now.now in
    let p = c.in-Some.before.now in
    let nearest = nearest-key (predecessor (keys_in c.args.befores.now.entries)) c.as_bytes.result.now (key c.args.key.now) p c.in-Some.ensures.1 c.as_bytes.ensures.value in
    subst (λ o. AreRelinked base (keys_in c.args.afters.now.entries) front before (keys ++ option_to_list o) (ordered_touches key value c.push.new.self.items) (keys_in c.put.new.map.entries)) nearest
    (relinked-next base (keys_in c.args.afters.now.entries) front before keys (ordered_touches key value c.args.touches.now.items) (keys_in c.args.written.now.entries) so_far
    (ordered_touches key value c.push.new.self.items) (keys_in c.put.new.map.entries) p (key found.1.key) (value found.1.value) (Some (key found.1.next_key)) found.0 _
    (looked c.args.written.now.entries p p _ c.if-contains_key.ensures refl)
    (All-contains (λ e. update_of base e.0.now ≡ Some (read_view (ordered_update key value) e.1.now)) c.args.befores.now.entries _ stand c.in-Some.ensures.0)
    c.in_ok-operation.ensures (ap (λ n. Some n) c.get.ensures)
    (push-shown (ordered_touch key value) c.args.touches.now.items c.push.new.self.items _ c.in_ok-push.ensures.items)
    (keys-more c.args.written.now.entries c.put.new.map.entries c.in-Some.before _ p put refl))) c.put.ensures.entries

pub returns-then-contains_key : goal.returns-then-contains_key
returns-then-contains_key g c = λ base front before keys stand so_far.
    let key = g.K.ByteString.bytes in
    let value = g.V.Value.ByteString.bytes in
    let p = c.in-Some.before.now in
    let nearest = nearest-key (predecessor (keys_in c.args.befores.now.entries)) c.as_bytes.result.now (key c.args.key.now) p c.in-Some.ensures.1 c.as_bytes.ensures.value in
    subst (λ o. AreRelinked base (keys_in c.args.afters.now.entries) front before (keys ++ option_to_list o) (ordered_touches key value c.args.touches.now.items) (keys_in c.args.written.now.entries)) nearest
    (relinked-stays base (keys_in c.args.afters.now.entries) front before keys (ordered_touches key value c.args.touches.now.items) (keys_in c.args.written.now.entries) so_far p
    (looked c.args.written.now.entries p p _ c.if-contains_key.ensures refl))
