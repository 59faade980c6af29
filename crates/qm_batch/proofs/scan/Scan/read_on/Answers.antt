use Rattle.std.proofs.Common.{◌∙◌, ap, sym, map, refl}
use Rattle.std.proofs.lemmas.Result.{IfOk-from_err, err_from_is_err_and}
use Rattle.qm_model.proofs.Results.{told-any, told-one}
use Rattle.qm_base.specs.Views.{pair_view}
use Rattle.qm_batch.specs.Scans.{place_view}
use Rattle.qm_batch.proofs.Going.{carried, ended}
use Rattle.qm_base.proofs.Reading.{reads-on, reads-short}
use Rattle.qm_batch.proofs.scan.Scan.read_on.Goals as goal

pub returns : goal.returns
returns g c = record {
  value = λ list is.
      let view = pair_view g.U.Key.ByteString.bytes g.U.Value.ByteString.bytes in
      told-one _ _ (g.L.Items.reads.told c.args.log.now) (c.in_ok-found.ensures.value list is) (λ next.
      carried g.I.Unordered.index_key list _ _ c.self.view_is c.requires.empty (place_view g.U.Key.ByteString.bytes c.self.inside.place) refl _ _ next _ (ap (map view) c.from_vec.ensures.items));
  over = λ list is.
      let view = pair_view g.U.Key.ByteString.bytes g.U.Value.ByteString.bytes in
      told-any _ (g.L.Items.reads.told c.args.log.now) (λ begun none.
      ended g.I.Unordered.index_key list _ _ _ _ none (c.in_ok-found.ensures.over (λ at. begun (sym (ap (λ s. s.place) c.self.view_is) ∙ at)) (sym (ap (map view) c.from_vec.ensures.items) ∙ none)));
  begun = c.in_ok-found.ensures.begun;
  reads = reads-short g.L.Items.reads _ c.read_at.ensures.reads.left tt;
}

pub returns-in_err-found : goal.returns-in_err-found
returns-in_err-found g c =
    let exit = err_from_is_err_and c.from_residual.result c.from_residual.ensures.1 in
    record {
      value = λ list is. told-any _ (g.L.Items.reads.told c.args.log.now) refl;
      over = λ list is. told-any _ (g.L.Items.reads.told c.args.log.now) (IfOk-from_err c.from_residual.result _ c.from_residual.ensures.0);
      begun = IfOk-from_err c.from_residual.result _ c.from_residual.ensures.0;
      reads = reads-on g.L.Items.reads c.from_residual.result c.in_err-found.ensures.reads exit.1 exit.2;
    }
