use Rattle.std.proofs.Common.{◌≡◌, ◌∙◌, ◌||◌, ap, ap₂, sym, subst, Some, Bool, map}
use Rattle.std.specs.Prelude.{bytes_eq}
use Rattle.std.proofs.lemmas.List.{take_all}
use Rattle.std.proofs.lemmas.List.Elements.{All-get_or}
use Rattle.qm_model.specs.Keys.{contains_key}
use Rattle.qm_model.specs.Operations.{Bytes}
use Rattle.qm_step.specs.Changes.{update_of}
use Rattle.qm_step.specs.OrderedViews.{ordered_update}
use Rattle.qm_step.specs.Views.{read_view}
use Rattle.qm_step.proofs.MovesMaps.{has-none, has-put, all-none, all-more, more-keys}
use Rattle.std.proofs.lemmas.Result.{IfOk-from_err}
use Rattle.qm_step.proofs.moves.by_key.Goals as goal

pub loop-one-init : goal.loop-one-init
loop-one-init g c =
    let view = read_view (ordered_update g.K.ByteString.bytes g.V.Value.ByteString.bytes) in
    record {
      has = λ x. has-none c.new-all.result x c.new-all.ensures.empty;
      stand = λ list stands. all-none (λ (k : Bytes) v. update_of list k ≡ Some (view v.now)) c.new-all.result.entries c.new-all.ensures.empty;
    }

pub loop-one-preserved : goal.loop-one-preserved
loop-one-preserved g c =
    let key = g.K.ByteString.bytes in
    let view = read_view (ordered_update key g.V.Value.ByteString.bytes) in
    let one = c.one-item.result in
    record {
      has = λ x.
          has-put c.loop-one.all c.put.new.map c.as_bytes.result.now _ c.in_ok-put.ensures.updates x ∙ ap₂ (λ (t : Bool) (b : Bytes). t || bytes_eq b x) (c.loop-one.invariant.has x) c.as_bytes.ensures.value
          ∙ sym (more-keys c.args.found.now c.loop-one.one-index one c.loop-one-test.true c.one-item.is (λ f. key f.1.key) x);
      stand = λ list stands.
          let here = subst (λ f. update_of list (key f.1.key) ≡ Some (view f)) (sym c.one-item.is) (All-get_or (λ f. update_of list (key f.1.key) ≡ Some (view f)) c.args.found.now c.loop-one.one-index one c.loop-one-test.true stands) in
          all-more (λ (k : Bytes) v. update_of list k ≡ Some (view v.now)) c.loop-one.all.entries c.put.new.map.entries c.as_bytes.result _ c.in_ok-put.ensures.entries
          (subst (λ b. update_of list b ≡ Some (view one)) (sym c.as_bytes.ensures.value) here) (c.loop-one.invariant.stand list stands);
    }

pub returns : goal.returns
returns g c = record {
  has = λ x. c.loop-one.invariant.has x ∙ ap (λ fs. contains_key (map (λ f. g.K.ByteString.bytes f.1.key) fs) x) (take_all c.loop-one.one-index c.args.found.now c.loop-one-test.false);
  stand = c.loop-one.invariant.stand;
}

pub returns-in_err-put : goal.returns-in_err-put
returns-in_err-put g c = record {
  has = IfOk-from_err c.from_residual.result _ c.from_residual.ensures.0;
  stand = IfOk-from_err c.from_residual.result _ c.from_residual.ensures.0;
}
