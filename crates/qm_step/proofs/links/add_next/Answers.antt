use Rattle.qm_step.specs.Links.{next_of, keys_in, ordered_neighbour}
use Rattle.qm_step.proofs.LinksSets.{made-next, whole}
use Rattle.std.proofs.lemmas.Result.{IfOk-from_err}
use Rattle.std.proofs.Common.{◌∙◌, ◌++◌, ap, sym, append-nil}
use Rattle.std.specs.Prelude.{filter_map}
use Rattle.qm_model.specs.Keys.{contains_key, without}
use Rattle.qm_step.proofs.links.add_next.Goals as goal

pub loop-neighbour-preserved : goal.loop-neighbour-preserved
loop-neighbour-preserved g c = record {
  keys =
      made-next (ordered_neighbour g.K.ByteString.bytes g.V.Value.ByteString.bytes) (keys_in c.args.deleted.now.entries) next_of c.args.neighbours.now c.loop-neighbour.neighbour-index c.neighbour-item.result c.loop-neighbour-test.true c.neighbour-item.is
      (keys_in c.args.keys.now.entries) (keys_in c.loop-neighbour.keys.entries) (keys_in c.add_kept.new.keys.entries) _ c.loop-neighbour.invariant.keys c.in_ok-add_kept.ensures.keys c.next_by.ensures;
  known = λ all. c.in_ok-add_kept.ensures.known (c.loop-neighbour.invariant.known all);
}

pub returns-in_err-add_kept : goal.returns-in_err-add_kept
returns-in_err-add_kept g c = record {
  keys = IfOk-from_err c.from_residual.result _ c.from_residual.ensures.0;
  known = IfOk-from_err c.from_residual.result _ c.from_residual.ensures.0;
}

pub loop-neighbour-init : goal.loop-neighbour-init
loop-neighbour-init g c = record {
  keys = λ x. ap (λ ks. contains_key ks x) (sym (append-nil (keys_in c.args.keys.now.entries)));
  known = λ all. all;
}

pub returns : goal.returns
returns g c = record {
  keys = λ x.
      c.loop-neighbour.invariant.keys x
      ∙ ap (λ vs. contains_key (keys_in c.args.keys.now.entries ++ without (keys_in c.args.deleted.now.entries) (filter_map next_of vs)) x) (whole (ordered_neighbour g.K.ByteString.bytes g.V.Value.ByteString.bytes) c.args.neighbours.now c.loop-neighbour.neighbour-index c.loop-neighbour-test.false);
  known = c.loop-neighbour.invariant.known;
}
