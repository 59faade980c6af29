use Rattle.std.proofs.Common.{◌≡◌, ◌∙◌, ◌&&◌, ap, sym, Some, map, take}
use Rattle.std.specs.Prelude.{bytes_eq, not}
use Rattle.std.proofs.lemmas.List.{take_all}
use Rattle.qm_model.specs.Keys.{contains_key}
use Rattle.qm_model.specs.Operations.{Bytes}
use Rattle.qm_step.specs.Changes.{update_of}
use Rattle.qm_step.specs.Moves.{has_key}
use Rattle.qm_step.specs.OrderedViews.{ordered_update}
use Rattle.qm_step.specs.Views.{read_view}
use Rattle.qm_step.proofs.MovesLoops.{and-all}
use Rattle.qm_step.proofs.MovesMaps.{and-more, has-taken, all-fewer, more-keys}
use Rattle.qm_step.proofs.moves.undecided.Goals as goal

pub loop-one-init : goal.loop-one-init
loop-one-init g c = record {
  has = λ x. c.in_ok-all.ensures.has x ∙ and-all (contains_key (map (λ f. g.K.ByteString.bytes f.1.key) c.args.found.now) x);
  stand = c.in_ok-all.ensures.stand;
}

pub loop-one-preserved : goal.loop-one-preserved
loop-one-preserved g c =
    let key = g.K.ByteString.bytes in
    let view = read_view (ordered_update key g.V.Value.ByteString.bytes) in
    let one = c.one-item.result in
    record {
      has = λ x.
          let all = contains_key (map (λ f. key f.1.key) c.args.found.now) x in
          has-taken c.loop-one.all c.remove.new.self c.as_bytes.result.now c.remove.ensures.updates x
          ∙ ap (λ b. has_key c.loop-one.all x && not (bytes_eq b x)) c.as_bytes.ensures.value
          ∙ and-more (has_key c.loop-one.all x) all (contains_key (map (λ d. key d.key) (take c.loop-one.one-index c.args.decided.now)) x) (bytes_eq (key one.key) x) (c.loop-one.invariant.has x)
          ∙ sym (ap (λ t. all && not t) (more-keys c.args.decided.now c.loop-one.one-index one c.loop-one-test.true c.one-item.is (λ d. key d.key) x));
      stand = λ list stands.
          all-fewer (λ (k : Bytes) v. update_of list k ≡ Some (view v.now)) c.loop-one.all.entries c.remove.new.self.entries _ c.remove.ensures.entries (c.loop-one.invariant.stand list stands);
    }

pub returns : goal.returns
returns g c = record {
  has = λ x.
      c.loop-one.invariant.has x
      ∙ ap (λ ds. contains_key (map (λ f. g.K.ByteString.bytes f.1.key) c.args.found.now) x && not (contains_key (map (λ d. g.K.ByteString.bytes d.key) ds) x)) (take_all c.loop-one.one-index c.args.decided.now c.loop-one-test.false);
  stand = c.loop-one.invariant.stand;
}
