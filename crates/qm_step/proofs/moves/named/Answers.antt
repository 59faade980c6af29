use Rattle.std.proofs.Common.{◌∙◌, ◌&&◌, ap, sym, map, take}
use Rattle.std.specs.Prelude.{bytes_eq, filter, filter_map, is_none, not, option_map}
use Rattle.std.proofs.lemmas.List.{take_all}
use Rattle.qm_model.specs.Keys.{contains_key}
use Rattle.qm_step.specs.Moves.{has_key}
use Rattle.qm_step.proofs.MovesLoops.{and-all}
use Rattle.qm_step.proofs.MovesMaps.{and-more, more-passing}
use Rattle.qm_step.proofs.moves.named.Goals as goal

pub loop-one-init : goal.loop-one-init
loop-one-init g c = record {
  has = λ x. c.in_ok-keys.ensures.has x ∙ and-all (contains_key (filter_map (λ d. option_map g.K.ByteString.bytes d.next) c.args.decided.now) x);
  known = c.in_ok-keys.ensures.known;
}

pub loop-one-preserved : goal.loop-one-preserved
loop-one-preserved g c = record {
  has = λ x.
      let all = contains_key (filter_map (λ d. option_map g.K.ByteString.bytes d.next) c.args.decided.now) x in
      let one = c.one-item.result in
      c.drop_gone.ensures.has x
      ∙ and-more (has_key c.loop-one.keys x) all (contains_key (map (λ d. g.K.ByteString.bytes d.key) (filter (λ d. is_none d.value) (take c.loop-one.one-index c.args.decided.now))) x) (is_none one.value && bytes_eq (g.K.ByteString.bytes one.key) x) (c.loop-one.invariant.has x)
      ∙ sym (ap (λ t. all && not t) (more-passing c.args.decided.now c.loop-one.one-index one c.loop-one-test.true c.one-item.is (λ d. g.K.ByteString.bytes d.key) (λ d. is_none d.value) x));
  known = c.drop_gone.ensures.known c.loop-one.invariant.known;
}

pub returns : goal.returns
returns g c = record {
  has = λ x.
      c.loop-one.invariant.has x
      ∙ ap (λ ds. contains_key (filter_map (λ d. option_map g.K.ByteString.bytes d.next) c.args.decided.now) x && not (contains_key (map (λ d. g.K.ByteString.bytes d.key) (filter (λ d. is_none d.value) ds)) x))
      (take_all c.loop-one.one-index c.args.decided.now c.loop-one-test.false);
  known = c.loop-one.invariant.known;
}
