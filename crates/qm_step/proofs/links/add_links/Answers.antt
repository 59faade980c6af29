use Rattle.std.proofs.Common.{◌++◌, ap, map, take, sym, [], append-nil, refl}
use Rattle.std.specs.Prelude.{filter_map, option_to_list}
use Rattle.qm_model.specs.Keys.{predecessor}
use Rattle.qm_step.specs.Links.{is_kind, keys_in, keys_of_kind}
use Rattle.qm_step.specs.OrderedViews.{ordered_touches}
use Rattle.qm_step.specs.PlanViews.{linked_view}
use Rattle.qm_step.proofs.LinksSets.{found-more, picked-one, picked-none, whole}
use Rattle.qm_step.proofs.LinksAgain.{relinked-as}
use Rattle.std.proofs.lemmas.Result.{IfOk-from_err}
use Rattle.qm_step.proofs.links.add_links.Goals as goal
use Rattle.qm_step.proofs.links.add_links.Goals.{then-is_of+in_ok-add_link, else-is_of}

pub loop-changed-preserved : goal.loop-changed-preserved
loop-changed-preserved g c = λ base front before keys stand begun.
    let key = g.K.ByteString.bytes in
    let value = g.V.Value.ByteString.bytes in
    let view = linked_view key value in
    let show = ordered_touches key value in
    let afters = keys_in c.args.afters.now.entries in
    let find = predecessor (keys_in c.args.befores.now.entries) in
    let kind = c.args.kind in
    let d = c.changed-item.result in
    let i = c.loop-changed.changed-index in
    let ks = keys_of_kind kind (map view (take i c.args.linked.now)) in
    let so_far = c.loop-changed.invariant base front before keys stand begun in
    elim c.if-is_of.branch [
      | then-is_of+in_ok-add_link w ↦
          relinked-as base afters front before ((keys ++ filter_map find ks) ++ option_to_list (find (key d.write.key.now))) _ (show w.add_link.new.touches.items) (show c.if-is_of.touches.items) (keys_in w.add_link.new.written.entries) (keys_in c.if-is_of.written.entries)
          (found-more find keys ks _ (key d.write.key.now) (picked-one view (is_kind kind) (λ l. l.0.key) c.args.linked.now i d c.loop-changed-test.true c.changed-item.is w.if-is_of.ensures))
          (ap (λ v. show v.items) w.touches-is) (ap (λ m. keys_in m.entries) w.written-is)
          (w.in_ok-add_link.ensures base front before (keys ++ filter_map find ks) stand so_far)
      | else-is_of w ↦
          relinked-as base afters front before (keys ++ filter_map find ks) _ (show c.loop-changed.touches.items) (show c.if-is_of.touches.items) (keys_in c.loop-changed.written.entries) (keys_in c.if-is_of.written.entries)
          (ap (λ more. keys ++ filter_map find more) (picked-none view (is_kind kind) (λ l. l.0.key) c.args.linked.now i d c.loop-changed-test.true c.changed-item.is w.if-is_of.ensures))
          (ap (λ v. show v.items) w.touches-is) (ap (λ m. keys_in m.entries) w.written-is) so_far
    ]

pub returns-in_err-add_link : goal.returns-in_err-add_link
returns-in_err-add_link g c = IfOk-from_err c.from_residual.result _ c.from_residual.ensures.0

pub loop-changed-init : goal.loop-changed-init
loop-changed-init g c = λ base front before keys stand begun.
    let key = g.K.ByteString.bytes in
    let value = g.V.Value.ByteString.bytes in
    let afters = keys_in c.args.afters.now.entries in
    let touches = ordered_touches key value c.args.touches.now.items in
    let written = keys_in c.args.written.now.entries in
    relinked-as base afters front before keys (keys ++ []) touches touches written written (sym (append-nil keys)) refl refl begun

pub returns : goal.returns
returns g c = λ base front before keys stand begun.
    let key = g.K.ByteString.bytes in
    let value = g.V.Value.ByteString.bytes in
    let afters = keys_in c.args.afters.now.entries in
    let find = predecessor (keys_in c.args.befores.now.entries) in
    let touches = ordered_touches key value c.loop-changed.touches.items in
    let written = keys_in c.loop-changed.written.entries in
    let i = c.loop-changed.changed-index in
    let view = linked_view key value in
    relinked-as base afters front before (keys ++ filter_map find (keys_of_kind c.args.kind (map view (take i c.args.linked.now)))) (keys ++ filter_map find (keys_of_kind c.args.kind (map view c.args.linked.now))) touches touches written written
    (ap (λ ls. keys ++ filter_map find (keys_of_kind c.args.kind ls)) (whole view c.args.linked.now i c.loop-changed-test.false)) refl refl (c.loop-changed.invariant base front before keys stand begun)
