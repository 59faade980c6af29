use Rattle.std.proofs.Common.{◌∙◌, None, ap, sym, subst, refl, map}
use Rattle.std.specs.Prelude.{option_map, option_and_then}
use Rattle.qm_model.specs.Forms.{IsSpelling, spelling}
use Rattle.qm_model.proofs.Results.{ok-then, told-any, told-one, told-err}
use Rattle.qm_operations.specs.Views.{operation_view}
use Rattle.qm_step.specs.Changes.{said_by}
use Rattle.qm_step.proofs.Spelled.{spelled-there, unspelled-there}
use Rattle.qm_batch.proofs.PlanFinds.{match-some, match-none, standing-none, moved-found, moved-not}
use Rattle.std.proofs.lemmas.Result.{err_from_is_err_and}
use Rattle.qm_base.proofs.Reading.{reads-on, reads-short, read-none}
use Rattle.qm_batch.proofs.plan.walk.unreplaced_at.Goals as goal

pub returns-then-is_moved : goal.returns-then-is_moved
returns-then-is_moved g c = record {
  value = λ lent base made is leads within from keyed replaced.
      let op = operation_view g.U.Update.view g.U.Key.ByteString.bytes g.U.Value.ByteString.bytes c.in-Some.operation.now in
      let there = match-some c.in_layers.result c.in-Some.operation _ _ c.in-Some.is (c.in_layers.ensures lent base leads within) in
      told-any _ (g.L.Items.reads.told c.args.log.now)
      (ok-then c.twin_update.result c.twin_update.ensures.value (λ found shown.
      moved-found base made c.args.at op there g.U.Update.view found c.is_moved.result c.if-is_moved.true shown
      (c.is_moved.ensures lent base made op is.indexed leads from keyed replaced there c.key_of_update.ensures)));
  reads = reads-short g.L.Items.reads c.twin_update.result (read-none g.L.Items.reads g.met.L.Items.unread c.args.log.now) c.twin_update.ensures.memory;
}

pub returns-else-is_moved : goal.returns-else-is_moved
returns-else-is_moved g c = record {
  value = λ lent base made is leads within from keyed replaced.
      let op = operation_view g.U.Update.view g.U.Key.ByteString.bytes g.U.Value.ByteString.bytes c.in-Some.operation.now in
      let there = match-some c.in_layers.result c.in-Some.operation _ _ c.in-Some.is (c.in_layers.ensures lent base leads within) in
      told-any _ (g.L.Items.reads.told c.args.log.now)
      (moved-not base made c.args.at op there c.is_moved.result c.if-is_moved.false (c.is_moved.ensures lent base made op is.indexed leads from keyed replaced there c.key_of_update.ensures));
  reads = reads-short g.L.Items.reads _ (read-none g.L.Items.reads g.met.L.Items.unread c.args.log.now) tt;
}

pub returns-in_default-2 : goal.returns-in_default-2
returns-in_default-2 g c = record {
  value = λ lent base made is leads within from keyed replaced.
      let form = g.U.Update.form in
      told-one _ _ (g.L.Items.reads.told c.args.log.now) (c.in_ok-item.ensures.value (map (spelling form) lent) is.logged) (λ said.
      let none = unspelled-there form lent c.args.at (sym said ∙ ap (option_map (λ v. v.items)) c.in_default-2.is) in
      let same = match-none c.in_layers.result _ _ c.in_default.is (c.in_layers.ensures lent base leads within) in
      standing-none base made c.args.at within None (sym (ap (option_and_then said_by) (same ∙ none))) refl);
  reads = reads-short g.L.Items.reads _ c.read_item.ensures.reads.left tt;
}

pub returns-then-is_moved-2 : goal.returns-then-is_moved-2
returns-then-is_moved-2 g c = record {
  value = λ lent base made is leads within from keyed replaced.
      let form = g.U.Update.form in
      let same = match-none c.in_layers.result _ _ c.in_default.is (c.in_layers.ensures lent base leads within) in
      told-one _ _ (g.L.Items.reads.told c.args.log.now) (c.in_ok-item.ensures.value (map (spelling form) lent) is.logged) (λ said.
      let spelled = spelled-there form lent c.args.at c.in-Some-2.item.items is.of (sym said ∙ ap (option_map (λ v. v.items)) c.in-Some-2.is) in
      let op = spelled.0 in
      let there = same ∙ spelled.1 in
      let lent_key = c.update_key.ensures op (subst (λ bs. IsSpelling form bs op) (sym c.deref.ensures.value) spelled.2) in
      let found = c.in_ok-update_in.ensures op (subst (λ bs. IsSpelling form bs op) (sym c.deref-then-is_moved-2.ensures.value) spelled.2) in
      moved-found base made c.args.at op there g.U.Update.view c.in_ok-update_in.field-0 c.is_moved-2.result c.if-is_moved-2.true found (c.is_moved-2.ensures lent base made op is.indexed leads from keyed replaced there lent_key));
  reads = reads-short g.L.Items.reads _ c.read_item.ensures.reads.left tt;
}

pub returns : goal.returns
returns g c = record {
  value = λ lent base made is leads within from keyed replaced.
      let form = g.U.Update.form in
      let same = match-none c.in_layers.result _ _ c.in_default.is (c.in_layers.ensures lent base leads within) in
      told-one _ _ (g.L.Items.reads.told c.args.log.now) (c.in_ok-item.ensures.value (map (spelling form) lent) is.logged) (λ said.
      let spelled = spelled-there form lent c.args.at c.in-Some-2.item.items is.of (sym said ∙ ap (option_map (λ v. v.items)) c.in-Some-2.is) in
      let op = spelled.0 in
      let there = same ∙ spelled.1 in
      let lent_key = c.update_key.ensures op (subst (λ bs. IsSpelling form bs op) (sym c.deref.ensures.value) spelled.2) in
      moved-not base made c.args.at op there c.is_moved-2.result c.if-is_moved-2.false (c.is_moved-2.ensures lent base made op is.indexed leads from keyed replaced there lent_key));
  reads = reads-short g.L.Items.reads _ c.read_item.ensures.reads.left tt;
}

pub returns-in_err-item : goal.returns-in_err-item
returns-in_err-item g c =
    let exit = err_from_is_err_and c.from_residual.result c.from_residual.ensures.1 in
    record {
      value = λ lent base made is leads within from keyed replaced. told-err _ (g.L.Items.reads.told c.args.log.now) c.from_residual.result exit.0 exit.1;
      reads = reads-on g.L.Items.reads c.from_residual.result c.in_err-item.ensures.reads exit.1 exit.2;
    }

pub returns-in_err-update_in : goal.returns-in_err-update_in
returns-in_err-update_in g c =
    let exit = err_from_is_err_and c.from_residual-in_err-update_in.result c.from_residual-in_err-update_in.ensures.1 in
    record {
      value = λ lent base made is leads within from keyed replaced. told-err _ (g.L.Items.reads.told c.args.log.now) c.from_residual-in_err-update_in.result exit.0 exit.1;
      reads = reads-short g.L.Items.reads c.from_residual-in_err-update_in.result c.read_item.ensures.reads.left (rw (exit.1, exit.2) refl);
    }
