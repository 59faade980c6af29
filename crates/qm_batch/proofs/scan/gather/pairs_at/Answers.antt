use Rattle.std.proofs.Common.{◌≤◌, ◌∙◌, ap, ap₂, sym, map, [], refl, arith}
use Rattle.std.specs.Prelude.{fold}
use Rattle.std.proofs.lemmas.List.{take_all}
use Rattle.std.proofs.lemmas.List.Sums.{fold_more}
use Rattle.std.proofs.lemmas.Result.{err_from_is_err_and}
use Rattle.qm_model.proofs.Results.{told-both, told-one, told-err, told-any}
use Rattle.qm_step.specs.Nearest.{limit_view}
use Rattle.qm_step.proofs.Reading.{told, taken-in}
use Rattle.qm_base.specs.Views.{pair_view}
use Rattle.qm_batch.specs.Gathered.{put_at, put_said}
use Rattle.std.proofs.lemmas.List.Elements.{All-contains}
use Rattle.qm_base.proofs.Reading.{reads-short, read-none, read-then, reads-then, reads-on}
use Rattle.qm_batch.proofs.scan.gather.pairs_at.Goals as goal

pub loop-location-preserved : goal.loop-location-preserved
loop-location-preserved g c =
    let read = c.loop-location.invariant.read in
    record {
      read = read-then g.L.Items.reads g.met.L.Items.read_again c.args.log.now c.loop-location.log c.read_in.new.log read c.read_in.ensures.reads.left;
      value = λ list is of.
          let low = limit_view c.args.low in
          let high = limit_view c.args.high in
          told-both _ _ _ (g.L.Items.reads.told c.args.log.now) (c.loop-location.invariant.value list is of)
          (told _ _ _ read.told (c.in_ok-update.ensures.value list (read.stands _ is) of)) (λ before said.
          c.in_ok-put.ensures
          ∙ ap₂ put_said before said
          ∙ ap (put_at low high list _) (c.get.ensures ∙ c.location-item.is)
          ∙ sym (fold_more (put_at low high list) [] c.args.locations.now c.loop-location.location-index c.location-item.result c.loop-location-test.true));
    }

pub returns-in_err-update : goal.returns-in_err-update
returns-in_err-update g c =
    let exit = err_from_is_err_and c.from_residual.result c.from_residual.ensures.1 in
    record {
      value = λ list is of. told-err _ (g.L.Items.reads.told c.args.log.now) c.from_residual.result exit.0 exit.1;
      reads =
          reads-then g.L.Items.reads g.met.L.Items.read_again g.met.L.Items.failed_later c.from_residual.result c.loop-location.invariant.read
          (λ kept.
          let within = taken-in c.args.locations.now c.args.locations.now c.loop-location.location-index c.location-item.result refl c.loop-location-test.true c.location-item.is in
          let here = All-contains (λ at. g.L.Items.reads.start c.args.log.now ≤ at) c.args.locations.now c.location-item.result kept within in
          let same = (c.loop-location.invariant.read).start in
          omega (arith, same, here, c.get.ensures))
          (reads-on g.L.Items.reads c.from_residual.result c.in_err-update.ensures.reads exit.1 exit.2);
    }

pub returns : goal.returns
returns g c = record {
  value = λ list is of.
      told-one _ _ (g.L.Items.reads.told c.args.log.now) (c.loop-location.invariant.value list is of) (λ all.
      all ∙ ap (fold (put_at (limit_view c.args.low) (limit_view c.args.high) list) []) (take_all c.loop-location.location-index c.args.locations.now c.loop-location-test.false));
  reads = reads-short g.L.Items.reads _ c.loop-location.invariant.read tt;
}

pub returns-in_err-put : goal.returns-in_err-put
returns-in_err-put g c =
    let exit = err_from_is_err_and c.from_residual-in_err-put.result c.from_residual-in_err-put.ensures.1 in
    record {
      value = λ list is of. told-err _ (g.L.Items.reads.told c.args.log.now) c.from_residual-in_err-put.result exit.0 exit.1;
      reads = reads-short g.L.Items.reads c.from_residual-in_err-put.result (read-then g.L.Items.reads g.met.L.Items.read_again c.args.log.now c.loop-location.log c.read_in.new.log c.loop-location.invariant.read c.read_in.ensures.reads.left) (rw (exit.1, exit.2) refl);
    }

pub loop-location-init : goal.loop-location-init
loop-location-init g c = record {
  read = read-none g.L.Items.reads g.met.L.Items.unread c.args.log.now;
  value = λ list is of. told-any _ (g.L.Items.reads.told c.args.log.now) (ap (map (pair_view g.U.Key.ByteString.bytes g.U.Value.ByteString.bytes)) c.new-pairs.ensures.items);
}
