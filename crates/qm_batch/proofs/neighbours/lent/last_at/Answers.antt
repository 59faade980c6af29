use Rattle.std.proofs.Common.{◌∙◌, ◌≤◌, ap, ap₂, sym, None, refl, arith}
use Rattle.std.specs.Prelude.{option_map, fold}
use Rattle.std.specs.Option.{option_or}
use Rattle.std.proofs.lemmas.List.{take_all}
use Rattle.std.proofs.lemmas.List.Sums.{fold_more}
use Rattle.qm_model.proofs.Results.{told-both, told-err, told-one}
use Rattle.qm_model.specs.Operations.{Operation}
use Rattle.qm_step.specs.Changes.{update_at}
use Rattle.qm_step.specs.Nearest.{later_at, limit_view, only_within}
use Rattle.qm_step.proofs.LentKeys.{key_of_last}
use Rattle.qm_step.proofs.Reading.{told, taken-in}
use Rattle.std.proofs.lemmas.Result.{err_from_is_err_and}
use Rattle.std.proofs.lemmas.List.Elements.{All-contains}
use Rattle.qm_base.proofs.Reading.{reads-short, read-then, reads-then, reads-on}
use Rattle.qm_batch.proofs.neighbours.lent.last_at.Goals as goal

pub loop-location-preserved : goal.loop-location-preserved
loop-location-preserved g c =
    let read = c.loop-location.invariant.read in
    record {
      read = read-then g.L.Items.reads g.met.L.Items.read_again c.args.log.now c.loop-location.log c.read_within.new.log read c.read_within.ensures.reads.left;
      value = λ list is of.
          let limit = limit_view c.args.limit in
          let at = c.get-at.result in
          told-both _ _ _ (g.L.Items.reads.told c.args.log.now) (c.loop-location.invariant.value list is of)
          (told _ _ _ read.told (c.in_ok-update.ensures.value list (read.stands _ is) of)) (λ before said.
          c.or_last-last.ensures
          ∙ ap₂ (λ o last. option_or (option_map (λ (op : Operation). (at, op)) o) last) (said ∙ ap (λ k. only_within k limit (update_at list at)) (c.key_in.ensures ∙ ap key_of_last before)) before
          ∙ ap (later_at limit list _) (c.get-at.ensures ∙ c.location-item.is)
          ∙ sym (fold_more (later_at limit list) None c.args.locations.now c.loop-location.location-index c.location-item.result c.loop-location-test.true));
    }

pub returns-in_err-update : goal.returns-in_err-update
returns-in_err-update g c =
    let exit = err_from_is_err_and c.from_residual.result c.from_residual.ensures.1 in
    record {
      value = λ list is of. told-err _ (g.L.Items.reads.told c.args.log.now) c.from_residual.result exit.0 exit.1;
      reads =
          reads-then g.L.Items.reads g.met.L.Items.read_again g.met.L.Items.failed_later c.from_residual.result c.loop-location.invariant.read
          (λ kept.
          let within = taken-in c.args.locations.now c.args.locations.now c.loop-location.location-index c.location-item.result refl c.loop-location-test.true c.location-item.is in
          let here = All-contains (λ at. g.L.Items.reads.start c.args.log.now ≤ at) c.args.locations.now c.location-item.result kept within in
          let same = (c.loop-location.invariant.read).start in
          omega (arith, same, here, c.get-at.ensures))
          (reads-on g.L.Items.reads c.from_residual.result c.in_err-update.ensures.reads exit.1 exit.2);
    }

pub returns : goal.returns
returns g c = record {
  value = λ list is of.
      told-one _ _ (g.L.Items.reads.told c.args.log.now) (c.loop-location.invariant.value list is of) (λ all.
      all ∙ ap (fold (later_at (limit_view c.args.limit) list) None) (take_all c.loop-location.location-index c.args.locations.now c.loop-location-test.false));
  reads = reads-short g.L.Items.reads _ c.loop-location.invariant.read tt;
}
