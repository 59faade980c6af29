use Rattle.std.proofs.Common.{◌-◌, ap, arith, subst, sym}
use Rattle.std.specs.Prelude.{option_map}
use Rattle.std.proofs.lemmas.Result.{err_from_is_err_and}
use Rattle.qm_model.proofs.Results.{told-any, told-err, told-one}
use Rattle.qm_step.specs.Touches.{IsMoveAt, moved_touch}
use Rattle.qm_base.proofs.Reading.{reads-on, reads-short, read-none}
use Rattle.qm_batch.proofs.plan.walk.live_at.Goals as goal

pub returns-then-path-at : goal.returns-then-path-at
returns-then-path-at g c = record {
  value = λ lent base list is on.
      let size = (on.known).size in
      told-any _ (g.L.Items.reads.told c.args.log.now)
      (c.made_at.ensures.value base list c.args.at on.makes on.once on.from
      (omega (arith, size, c.if-path-at.true)) (ap (λ n. c.args.at - n) size));
  reads = reads-short g.L.Items.reads c.made_at.result (read-none g.L.Items.reads g.met.L.Items.unread c.args.log.now) c.made_at.ensures.memory;
}

pub returns-in_err-update : goal.returns-in_err-update
returns-in_err-update g c =
    let exit = err_from_is_err_and c.from_residual.result c.from_residual.ensures.1 in
    record {
      value = λ lent base list is on. told-err _ (g.L.Items.reads.told c.args.log.now) c.from_residual.result exit.0 exit.1;
      reads = reads-on g.L.Items.reads c.from_residual.result c.in_err-update.ensures.reads exit.1 exit.2;
    }

pub returns : goal.returns
returns g c = record {
  value = λ lent base list is on.
      let size = (on.known).size in
      let update = c.in_ok-update.update in
      told-one _ _ (g.L.Items.reads.told c.args.log.now) (c.in_ok-update.ensures.value lent base _ is (on.known).leads (omega (arith, size, c.if-path-at.false)) on.from on.keyed on.replaced) (λ found.
      subst (λ found. IsMoveAt found base list c.args.at) (sym (c.standing.ensures g.U.Update.view))
      (subst (λ ops. IsMoveAt (option_map (λ u. moved_touch (c.args.at, g.U.Update.view u)) update) base ops c.args.at) on.makes found));
  reads = reads-short g.L.Items.reads _ c.unreplaced_at.ensures.reads.left tt;
}
