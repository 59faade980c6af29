use Rattle.std.proofs.Common.{◌∙◌, ◌++◌, ap, ℕ, Option}
use Rattle.std.proofs.lemmas.List.{map-append}
use Rattle.std.proofs.lemmas.Result.{IfOk-from_err}
use Rattle.std.specs.Prelude.{option_map}
use Rattle.qm_model.specs.Operations.{Bytes, Operation}
use Rattle.qm_step.specs.Views.{read_view, reads_view}
use Rattle.qm_any.proofs.staged.Staged.with.Goals as goal

pub returns-in_err-append : goal.returns-in_err-append
returns-in_err-append g c = record {
  batch = IfOk-from_err c.from_residual.result _ c.from_residual.ensures.0;
  reads = IfOk-from_err c.from_residual.result _ c.from_residual.ensures.0;
}

pub returns : goal.returns
returns g c =
    let key = g.U.Key.ByteString.bytes in
    record {
      batch = ap (λ s. s.batch) c.self.view_is;
      reads = ap (reads_view g.U.Update.view key) c.in_ok-append.ensures.items
          ∙ map-append {B = Bytes × Option (ℕ × Operation)} (λ r. (key r.key, option_map (read_view g.U.Update.view) r.found)) c.self.inside.reads.items c.args.found.items
          ∙ ap (λ s. s.reads ++ reads_view g.U.Update.view key c.args.found.items) c.self.view_is;
    }
