use Rattle.qm_step.specs.PlanViews.{linked_view}
use Rattle.qm_step.specs.Links.{after_of, keys_in}
use Rattle.qm_step.proofs.LinksSets.{made-next, whole}
use Rattle.std.proofs.lemmas.Result.{IfOk-from_err}
use Rattle.std.proofs.Common.{◌∙◌, ◌++◌, ap, sym, append-nil}
use Rattle.std.specs.Prelude.{filter_map}
use Rattle.qm_model.specs.Keys.{contains_key, without}
use Rattle.qm_step.proofs.links.add_named.Goals as goal

pub loop-written-preserved : goal.loop-written-preserved
loop-written-preserved g c = record {
  keys =
      made-next (linked_view g.K.ByteString.bytes g.V.ByteString.bytes) (keys_in c.args.deleted.now.entries) after_of c.args.linked.now c.loop-written.written-index c.written-item.result c.loop-written-test.true c.written-item.is
      (keys_in c.args.keys.now.entries) (keys_in c.loop-written.keys.entries) (keys_in c.add_kept.new.keys.entries) _ c.loop-written.invariant.keys c.in_ok-add_kept.ensures.keys c.named_by.ensures;
  known = λ all. c.in_ok-add_kept.ensures.known (c.loop-written.invariant.known all);
}

pub returns-in_err-add_kept : goal.returns-in_err-add_kept
returns-in_err-add_kept g c = record {
  keys = IfOk-from_err c.from_residual.result _ c.from_residual.ensures.0;
  known = IfOk-from_err c.from_residual.result _ c.from_residual.ensures.0;
}

pub loop-written-init : goal.loop-written-init
loop-written-init g c = record {
  keys = λ x. ap (λ ks. contains_key ks x) (sym (append-nil (keys_in c.args.keys.now.entries)));
  known = λ all. all;
}

pub returns : goal.returns
returns g c = record {
  keys = λ x.
      c.loop-written.invariant.keys x
      ∙ ap (λ vs. contains_key (keys_in c.args.keys.now.entries ++ without (keys_in c.args.deleted.now.entries) (filter_map after_of vs)) x) (whole (linked_view g.K.ByteString.bytes g.V.ByteString.bytes) c.args.linked.now c.loop-written.written-index c.loop-written-test.false);
  known = c.loop-written.invariant.known;
}
