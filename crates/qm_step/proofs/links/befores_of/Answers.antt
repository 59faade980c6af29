use Rattle.std.proofs.Common.{[], ◌∙◌, ap, refl}
use Rattle.std.specs.Prelude.{filter_map}
use Rattle.qm_model.specs.Keys.{contains_key, without}
use Rattle.qm_step.specs.Links.{before_of, keys_in, ordered_neighbour, IsStanding}
use Rattle.qm_step.proofs.LinksSets.{all-at, made-next, whole}
use Rattle.std.proofs.lemmas.Result.{IfOk-from_err}
use Rattle.qm_step.proofs.links.befores_of.Goals as goal

pub loop-neighbour-preserved : goal.loop-neighbour-preserved
loop-neighbour-preserved g c =
    let view = ordered_neighbour g.K.ByteString.bytes g.V.Value.ByteString.bytes in
    let d = c.neighbour-item.result in
    let i = c.loop-neighbour.neighbour-index in
    record {
      keys =
          made-next view (keys_in c.args.deleted.now.entries) before_of c.args.neighbours.now i d c.loop-neighbour-test.true c.neighbour-item.is
          [] (keys_in c.loop-neighbour.befores.entries) (keys_in c.add_before.new.befores.entries) _ c.loop-neighbour.invariant.keys c.in_ok-add_before.ensures.keys refl;
      standing = λ base all.
          c.in_ok-add_before.ensures.standing base (all-at view (IsStanding base) c.args.neighbours.now i d c.loop-neighbour-test.true c.neighbour-item.is all) (c.loop-neighbour.invariant.standing base all);
    }

pub returns-clause-keys : goal.returns-clause-keys
returns-clause-keys g c = λ x.
    c.loop-neighbour.invariant.keys x
    ∙ ap (λ ns. contains_key (without (keys_in c.args.deleted.now.entries) (filter_map before_of ns)) x)
    (whole (ordered_neighbour g.K.ByteString.bytes g.V.Value.ByteString.bytes) c.args.neighbours.now c.loop-neighbour.neighbour-index c.loop-neighbour-test.false)

pub returns-in_err-add_before : goal.returns-in_err-add_before
returns-in_err-add_before g c = record {
  keys = IfOk-from_err c.from_residual.result _ c.from_residual.ensures.0;
  standing = IfOk-from_err c.from_residual.result _ c.from_residual.ensures.0;
}
