use Rattle.std.proofs.Common.{◌∷◌, [], ◌∙◌, ap, map, take}
use Rattle.qm_model.specs.Keys.{contains_key}
use Rattle.qm_step.specs.PlanViews.{linked_view}
use Rattle.qm_step.specs.Links.{is_kind, keys_in, keys_of_kind}
use Rattle.qm_step.proofs.LinksSets.{keys-more, picked-one, picked-none, same-more, whole}
use Rattle.std.proofs.lemmas.Result.{IfOk-from_err}
use Rattle.qm_step.proofs.links.keys_of.Goals as goal
use Rattle.qm_step.proofs.links.keys_of.Goals.{then-is_of+in_ok-put, else-is_of}

pub loop-written-preserved : goal.loop-written-preserved
loop-written-preserved g c = λ x.
    let view = linked_view g.K.ByteString.bytes g.V.ByteString.bytes in
    let kind = c.args.kind in
    let d = c.written-item.result in
    let i = c.loop-written.written-index in
    let key = g.K.ByteString.bytes d.write.key.now in
    elim c.if-is_of.branch [
      | then-is_of+in_ok-put w ↦
          ap (λ m. contains_key (keys_in m.entries) x) w.keys-is
          ∙ same-more (keys_in c.loop-written.keys.entries) (keys_of_kind kind (map view (take i c.args.linked.now))) (keys_in w.put.new.map.entries) [] (key ∷ []) _ c.loop-written.invariant
          (keys-more c.loop-written.keys.entries w.put.new.map.entries w.as_bytes.result _ key w.in_ok-put.ensures.entries w.as_bytes.ensures.value)
          (picked-one view (is_kind kind) (λ l. l.0.key) c.args.linked.now i d c.loop-written-test.true c.written-item.is w.if-is_of.ensures) x
      | else-is_of w ↦
          ap (λ m. contains_key (keys_in m.entries) x) w.keys-is ∙ c.loop-written.invariant x
          ∙ ap (λ ks. contains_key ks x) (picked-none view (is_kind kind) (λ l. l.0.key) c.args.linked.now i d c.loop-written-test.true c.written-item.is w.if-is_of.ensures)
    ]

pub returns-in_err-put : goal.returns-in_err-put
returns-in_err-put g c = IfOk-from_err c.from_residual.result _ c.from_residual.ensures.0

pub loop-written-init : goal.loop-written-init
loop-written-init g c = λ x. ap (λ es. contains_key (keys_in es) x) c.new-keys.ensures.empty

pub returns : goal.returns
returns g c = λ x. c.loop-written.invariant x ∙ ap (λ ls. contains_key (keys_of_kind c.args.kind ls) x) (whole (linked_view g.K.ByteString.bytes g.V.ByteString.bytes) c.args.linked.now c.loop-written.written-index c.loop-written-test.false)
