use Rattle.std.proofs.Common.{◌∙◌, ap, subst, sym, map}
use Rattle.std.specs.Prelude.{option_and_then, option_map}
use Rattle.std.proofs.lemmas.Result.{err_from_is_err_and}
use Rattle.qm_model.specs.Forms.{IsSpelling, spelling}
use Rattle.qm_model.proofs.Results.{told-err, told-one}
use Rattle.qm_step.specs.Changes.{said_by}
use Rattle.qm_step.specs.Nearest.{limit_view, only_within}
use Rattle.qm_step.proofs.Reading.{ok-same}
use Rattle.qm_step.proofs.Spelled.{spelled-there, unspelled-there}
use Rattle.qm_base.proofs.Reading.{reads-on, reads-short}
use Rattle.qm_batch.proofs.neighbours.lent.read_within.Goals as goal

pub returns-in_err-item : goal.returns-in_err-item
returns-in_err-item g c =
    let exit = err_from_is_err_and c.from_residual.result c.from_residual.ensures.1 in
    record {
      value = λ list is of. told-err _ (g.L.Items.reads.told c.args.log.now) c.from_residual.result exit.0 exit.1;
      reads = reads-on g.L.Items.reads c.from_residual.result c.in_err-item.ensures.reads exit.1 exit.2;
    }

pub returns-in-Some : goal.returns-in-Some
returns-in-Some g c = record {
  value = λ list is of.
      let form = g.U.Update.form in
      let at = c.args.at in
      let above = option_map (λ k. k.now) c.args.above in
      let limit = limit_view c.args.limit in
      told-one _ _ (g.L.Items.reads.told c.args.log.now) (c.in_ok-item.ensures.value (map (spelling form) list) is) (λ said.
      let spelled = spelled-there form list at c.in-Some.item.items of (sym said ∙ ap (option_map (λ v. v.items)) c.in-Some.is) in
      ok-same c.update_within.result (option_map g.U.Update.view) _ _ (ap (λ o. only_within above limit (option_and_then said_by o)) (sym spelled.1))
      (c.update_within.ensures.value spelled.0 (subst (λ bs. IsSpelling form bs spelled.0) (sym c.deref.ensures.value) spelled.2)));
  reads = reads-short g.L.Items.reads c.update_within.result c.read_item.ensures.reads.left c.update_within.ensures.memory;
}

pub returns-in-None : goal.returns-in-None
returns-in-None g c = record {
  value = λ list is of.
      let form = g.U.Update.form in
      let at = c.args.at in
      let above = option_map (λ k. k.now) c.args.above in
      let limit = limit_view c.args.limit in
      told-one _ _ (g.L.Items.reads.told c.args.log.now) (c.in_ok-item.ensures.value (map (spelling form) list) is) (λ said.
      ap (λ o. only_within above limit (option_and_then said_by o))
      (sym (unspelled-there form list at (sym said ∙ ap (option_map (λ v. v.items)) c.in-None.is))));
  reads = reads-short g.L.Items.reads _ c.read_item.ensures.reads.left tt;
}
