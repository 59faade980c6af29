use Rattle.std.proofs.Common.{◌∙◌, ap, sym, refl}
use Rattle.std.specs.Prelude.{option_map}
use Rattle.std.specs.Option.{option_copied}
use Rattle.qm_model.proofs.Results.{told-any, told-err}
use Rattle.qm_step.specs.Changes.{link_of, update_of}
use Rattle.qm_step.specs.Views.{read_view}
use Rattle.qm_step.proofs.Entries.{link-of_update}
use Rattle.qm_batch.proofs.PlanKnown.{known-there}
use Rattle.std.proofs.lemmas.Result.{err_from_is_err_and}
use Rattle.qm_base.proofs.Reading.{reads-short, read-none}
use Rattle.qm_batch.proofs.plan.sites.place_of.Goals as goal

pub returns-in_ok-stands_of-in-Some : goal.returns-in_ok-stands_of-in-Some
returns-in_ok-stands_of-in-Some g c = record {
  value = λ lent base is from known.
      let key = g.U.Key.ByteString.bytes c.args.key.now in
      told-any _ (g.L.Items.reads.told c.args.log.now)
      (c.in_ok-stands_of-in-Some.ensures
      ∙ ap (option_map link_of) (known-there (λ r. option_map (read_view g.U.Update.view) r.now.found) (update_of base) c.args.known.now.entries c.as_bytes.result.now c.in-Some.read.now known (sym c.get.ensures.value ∙ ap option_copied c.in-Some.is) ∙ ap (update_of base) c.as_bytes.ensures.value)
      ∙ link-of_update base key);
  reads = reads-short g.L.Items.reads _ (read-none g.L.Items.reads g.met.L.Items.unread c.args.log.now) tt;
}

pub returns-in-None : goal.returns-in-None
returns-in-None g c = record {
  value = λ lent base is from known. c.locate.ensures.value lent base is from;
  reads = c.locate.ensures.reads;
}

pub returns-in_err-stands_of-in-Some : goal.returns-in_err-stands_of-in-Some
returns-in_err-stands_of-in-Some g c =
    let exit = err_from_is_err_and c.from_residual.result c.from_residual.ensures.1 in
    record {
      value = λ lent base is from known. told-err _ (g.L.Items.reads.told c.args.log.now) c.from_residual.result exit.0 exit.1;
      reads = reads-short g.L.Items.reads c.from_residual.result (read-none g.L.Items.reads g.met.L.Items.unread c.args.log.now) (rw (exit.1, exit.2) refl);
    }
