use Rattle.std.proofs.lemmas.Result.{IfOk-from_err, err_from_is_err_and}
use Rattle.std.proofs.Common.{◌∙◌, ◌++◌, ap, map, ℕ, Option}
use Rattle.qm_model.specs.Operations.{Bytes, Operation}
use Rattle.qm_step.specs.Views.{reads_view}
use Rattle.qm_any.proofs.Staging.{staged-none}
use Rattle.qm_any.proofs.batch.UnmerkleizedBatch.stage.Goals as goal

pub returns-in_err-values : goal.returns-in_err-values
returns-in_err-values g c =
    let exit = err_from_is_err_and c.from_residual.result c.from_residual.ensures.1 in
    record {
      values = λ list chain above is begun known. IfOk-from_err c.from_residual.result _ c.from_residual.ensures.0;
      staged = λ list chain above is begun known. IfOk-from_err c.from_residual.result _ c.from_residual.ensures.0;
      batch = IfOk-from_err c.from_residual.result _ c.from_residual.ensures.0;
      keys = IfOk-from_err c.from_residual.result _ c.from_residual.ensures.0;
      reads = record {
        readable = IfOk-from_err c.from_residual.result _ c.from_residual.ensures.0;
        error = rw (exit.1, exit.2) c.in_err-values.ensures.reads.error;
        whole = λ list is. rw (exit.1, exit.2) (c.in_err-values.ensures.reads.whole list is);
        left = c.in_err-values.ensures.reads.left;
      };
    }

pub returns : goal.returns
returns g c =
    record {
      values = λ list chain above is begun known. c.in_ok-values.ensures.values list chain above is (record { begun = begun; reads = staged-none g.U.Update.view g.U.Key.ByteString.bytes chain.base _ c.new.ensures.items }) known;
      staged = λ list chain above is begun known. c.in_ok-values.ensures.staged list chain above is (record { begun = begun; reads = staged-none g.U.Update.view g.U.Key.ByteString.bytes chain.base _ c.new.ensures.items }) known;
      batch = c.in_ok-values.ensures.batch;
      keys = c.in_ok-values.ensures.keys ∙ ap (λ rs. map {A = Bytes × Option (ℕ × Operation)} (λ r. r.0) (reads_view g.U.Update.view g.U.Key.ByteString.bytes rs) ++ map g.U.Key.ByteString.bytes c.args.keys.items) c.new.ensures.items;
      reads = record {
        readable = c.in_ok-values.ensures.reads.readable;
        error = tt;
        whole = λ list is. tt;
        left = c.in_ok-values.ensures.reads.left;
      };
    }
