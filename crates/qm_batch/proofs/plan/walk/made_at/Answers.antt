use Rattle.std.proofs.Common.{◌∙◌, ap, refl, sym}
use Rattle.std.specs.Prelude.{option_map}
use Rattle.std.proofs.lemmas.Result.{err_from_is_err_and}
use Rattle.qm_step.specs.PlanViews.{touch_view}
use Rattle.qm_batch.proofs.PlanFinds.{got-one, got-none}
use Rattle.qm_batch.proofs.PlanMoves.{again-is, again-none}
use Rattle.qm_batch.proofs.plan.walk.made_at.Goals as goal

pub returns-in_default : goal.returns-in_default
returns-in_default g c = record {
  value = λ base list at makes once from past place.
      let view = touch_view g.U.Update.view g.U.Key.ByteString.bytes g.U.Value.ByteString.bytes in
      again-none base list _ makes once at past (got-none view c.get.result c.args.made.now c.args.place _ c.get.ensures.lookup c.in_default.is place);
  memory = tt;
}

pub returns-in_err-update : goal.returns-in_err-update
returns-in_err-update g c =
    let exit = err_from_is_err_and c.from_residual.result c.from_residual.ensures.1 in
    record {
      value = λ base list at makes once from past place. rw exit.1 tt;
      memory = rw exit.1 (exit.2 ∙ c.in_err-update.ensures.memory);
    }

pub returns-in-Some-2 : goal.returns-in-Some-2
returns-in-Some-2 g c = record {
  value = λ base list at makes once from past place.
      let view = touch_view g.U.Update.view g.U.Key.ByteString.bytes g.U.Value.ByteString.bytes in
      let here = got-one view c.get.result c.args.made.now c.args.place _ c.in-Some.touch c.get.ensures.lookup c.in-Some.is place in
      again-is base list _ makes once at past from (view c.in-Some.touch.now) _ here (sym (ap (option_map g.U.Update.view) c.in-Some-2.is) ∙ c.in_ok-update.ensures.value) refl;
  memory = tt;
}

pub returns-in-None : goal.returns-in-None
returns-in-None g c = record {
  value = λ base list at makes once from past place.
      let view = touch_view g.U.Update.view g.U.Key.ByteString.bytes g.U.Value.ByteString.bytes in
      let here = got-one view c.get.result c.args.made.now c.args.place _ c.in-Some.touch c.get.ensures.lookup c.in-Some.is place in
      again-is base list _ makes once at past from (view c.in-Some.touch.now) _ here (sym (ap (option_map g.U.Update.view) c.in-None.is) ∙ c.in_ok-update.ensures.value) tt;
  memory = tt;
}
