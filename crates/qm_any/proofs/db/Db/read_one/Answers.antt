use Rattle.std.proofs.Common.{◌≡◌, ◌∙◌, ap, sym, ℕ, Option, None, inl, refl}
use Rattle.std.proofs.lemmas.Result.{IfOk-from_err, err_from_is_err_and}
use Rattle.qm_any.specs.Layouts.{hashing_of}
use Rattle.std.specs.Prelude.{option_map, option_and_then}
use Rattle.qm_operations.specs.Parts as parts
use Rattle.qm_model.specs.Operations.{Bytes, Operation}
use Rattle.qm_model.specs.Live.{value_of}
use Rattle.qm_model.specs.Writes.{overwritten, write_of, last_writes}
use Rattle.qm_step.specs.Views.{read_view, write_view}
use Rattle.qm_any.proofs.Reading.{value-found, left-none}
use Rattle.qm_any.proofs.db.Db.read_one.Goals as goal

pub returns-in-Some-2 : goal.returns-in-Some-2
returns-in-Some-2 g c =
    record {
      value = λ list base stands from.
          let key = g.U.Key.ByteString.bytes in
          let value = g.U.Value.ByteString.bytes in
          let at = key c.args.key.now in
          let writes = c.args.writes.now in
          let unwritten : write_of (last_writes writes) at ≡ None = ap (write_of (last_writes writes)) (sym c.as_bytes.ensures.value) ∙ sym c.last.ensures ∙ ap (option_map (λ w. write_view key value w.now)) c.in_default.is in
          let view = read_view g.U.Update.view in
          let said : ℕ × Operation → Option Bytes = λ p. parts.value_of p.1 in
          sym c.into_value.ensures ∙ ap (λ o. option_and_then said (option_map view o)) (sym c.in-Some-2.is)
          ∙ ap (option_and_then said) (c.in_ok-update.ensures.value list base stands from) ∙ value-found base at ∙ sym (ap (λ w. overwritten w (value_of base at)) unwritten);
      reads = record {
        error = tt;
        whole = λ list is. tt;
        left = c.find.ensures.reads.left;
      };
    }

pub returns-in-None : goal.returns-in-None
returns-in-None g c =
    record {
      value = λ list base stands from.
          let key = g.U.Key.ByteString.bytes in
          let value = g.U.Value.ByteString.bytes in
          let at = key c.args.key.now in
          let writes = c.args.writes.now in
          let unwritten : write_of (last_writes writes) at ≡ None = ap (write_of (last_writes writes)) (sym c.as_bytes.ensures.value) ∙ sym c.last.ensures ∙ ap (option_map (λ w. write_view key value w.now)) c.in_default.is in
          let view = read_view g.U.Update.view in
          let said : ℕ × Operation → Option Bytes = λ p. parts.value_of p.1 in
          ap (λ o. option_and_then said (option_map view o)) (sym c.in-None.is)
          ∙ ap (option_and_then said) (c.in_ok-update.ensures.value list base stands from) ∙ value-found base at ∙ sym (ap (λ w. overwritten w (value_of base at)) unwritten);
      reads = record {
        error = tt;
        whole = λ list is. tt;
        left = c.find.ensures.reads.left;
      };
    }

pub returns-in_err-twin_option : goal.returns-in_err-twin_option
returns-in_err-twin_option g c =
    let exit = err_from_is_err_and c.from_residual.result c.from_residual.ensures.1 in
    record {
      value = λ list base is from. IfOk-from_err c.from_residual.result _ c.from_residual.ensures.0;
      reads = record {
        error = rw (exit.1, exit.2) (inl refl);
        whole = λ list is. rw (exit.1, exit.2) (λ n pruned. cc);
        left = left-none g.C.Store (hashing_of g.H.Digest.Digest.bytes g.H.Hasher g.F.Family g.U.Update) c.args.self.now;
      };
    }

pub returns-in_err-update : goal.returns-in_err-update
returns-in_err-update g c =
    let exit = err_from_is_err_and c.from_residual-in_err-update.result c.from_residual-in_err-update.ensures.1 in
    record {
      value = λ list base is from. IfOk-from_err c.from_residual-in_err-update.result _ c.from_residual-in_err-update.ensures.0;
      reads = record {
        error = rw (exit.1, exit.2) c.in_err-update.ensures.reads.error;
        whole = λ list is. rw (exit.1, exit.2) (c.in_err-update.ensures.reads.whole list is);
        left = c.find.ensures.reads.left;
      };
    }
