use Rattle.std.proofs.Common.{◌≡◌, ◌∙◌, ◌||◌, ap, sym, true}
use Rattle.std.specs.Prelude.{filter_map, option_map, option_to_list}
use Rattle.std.proofs.lemmas.List.{take_all}
use Rattle.qm_model.specs.Keys.{contains_key}
use Rattle.qm_model.specs.Operations.{Bytes}
use Rattle.qm_step.proofs.MovesMaps.{has-none, all-none, more-named}
use Rattle.qm_step.proofs.moves.all_named.Goals as goal

pub loop-one-init : goal.loop-one-init
loop-one-init g c = record {
  has = λ x. has-none c.new-keys.result x c.new-keys.ensures.empty;
  known = all-none (λ (k : Bytes) (v : Unit {0}). g.K.ByteString.has k ≡ true) c.new-keys.result.entries c.new-keys.ensures.empty;
}

pub loop-one-preserved : goal.loop-one-preserved
loop-one-preserved g c =
    record {
      has = λ x.
          c.in_ok-add_named.ensures.has x ∙ ap (λ t. t || contains_key (option_to_list (option_map g.K.ByteString.bytes c.one-item.result.next)) x) (c.loop-one.invariant.has x)
          ∙ sym (more-named c.args.decided.now c.loop-one.one-index c.one-item.result c.loop-one-test.true c.one-item.is (λ d. option_map g.K.ByteString.bytes d.next) x);
      known = c.in_ok-add_named.ensures.known c.loop-one.invariant.known;
    }

pub returns : goal.returns
returns g c = record {
  has = λ x. c.loop-one.invariant.has x ∙ ap (λ ds. contains_key (filter_map (λ d. option_map g.K.ByteString.bytes d.next) ds) x) (take_all c.loop-one.one-index c.args.decided.now c.loop-one-test.false);
  known = c.loop-one.invariant.known;
}
