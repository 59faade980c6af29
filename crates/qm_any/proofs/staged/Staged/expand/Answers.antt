use Rattle.std.proofs.Common.{◌≡◌, ◌∙◌, ◌+◌, ap, true, false, length, map, subst, sym, refl, inl, inr}
use Rattle.std.specs.Prelude.{◌⊎◌}
use Rattle.std.proofs.lemmas.List.{length-append, length-map}
use Rattle.std.proofs.lemmas.Result.{IfOk-from_err, err_from_is_err_and}
use Rattle.qm_model.specs.Writes.{read_through}
use Rattle.qm_base.specs.declared.error.Error.TheVariants as errors
use Rattle.qm_chain.specs.Bounds.{knows}
use Rattle.qm_store.specs.Reads.{IsReadError}
use Rattle.qm_any.specs.Layouts.{hashing_of}
use Rattle.qm_any.specs.Databases.{Begun, IsBegun, staged_keys}
use Rattle.qm_any.proofs.Staging.{staged-keys-more, staged-more}
use Rattle.qm_any.proofs.staged.Staged.expand.Goals as goal

pub returns-in_err-found : goal.returns-in_err-found
returns-in_err-found g c =
    let exit = err_from_is_err_and c.from_residual.result c.from_residual.ensures.1 in
    record {
      range = IfOk-from_err c.from_residual.result _ c.from_residual.ensures.0;
      values = λ list chain above is staged known. IfOk-from_err c.from_residual.result _ c.from_residual.ensures.0;
      staged = λ list chain above is staged known. IfOk-from_err c.from_residual.result _ c.from_residual.ensures.0;
      batch = IfOk-from_err c.from_residual.result _ c.from_residual.ensures.0;
      keys = IfOk-from_err c.from_residual.result _ c.from_residual.ensures.0;
      reads = record {
        readable = IfOk-from_err c.from_residual.result _ c.from_residual.ensures.0;
        error = rw (exit.1, exit.2) (subst (λ (b : Begun g.row.D.Denot). ((c.in_err-found.field-0.0 ≡ errors.StaleRead) × (knows b.parent.bounds c.args.db.now.commitment ≡ false))
            ⊎ ((c.in_err-found.field-0.0 ≡ errors.Memory) ⊎ ((knows b.parent.bounds c.args.db.now.commitment ≡ true) × IsReadError g.C.Store c.args.db.now.log c.located.new.db.log c.in_err-found.field-0.0)))
            (ap (λ s. s.batch) c.self.view_is) c.in_err-found.ensures.reads.error);
        whole = λ list is. rw (exit.1, exit.2) (c.in_err-found.ensures.reads.whole list is);
        left = c.in_err-found.ensures.reads.left;
      };
    }

pub returns-in_err-staged : goal.returns-in_err-staged
returns-in_err-staged g c =
    let exit = err_from_is_err_and c.from_residual-in_err-staged.result c.from_residual-in_err-staged.ensures.1 in
    record {
      range = IfOk-from_err c.from_residual-in_err-staged.result _ c.from_residual-in_err-staged.ensures.0;
      values = λ list chain above is staged known. IfOk-from_err c.from_residual-in_err-staged.result _ c.from_residual-in_err-staged.ensures.0;
      staged = λ list chain above is staged known. IfOk-from_err c.from_residual-in_err-staged.result _ c.from_residual-in_err-staged.ensures.0;
      batch = IfOk-from_err c.from_residual-in_err-staged.result _ c.from_residual-in_err-staged.ensures.0;
      keys = IfOk-from_err c.from_residual-in_err-staged.result _ c.from_residual-in_err-staged.ensures.0;
      reads = record {
        readable = IfOk-from_err c.from_residual-in_err-staged.result _ c.from_residual-in_err-staged.ensures.0;
        error = rw (exit.1, exit.2) (inr (inl refl));
        whole = λ list is. rw (exit.1, exit.2) (λ n pruned. cc);
        left = c.in_ok-found.ensures.reads.left;
      };
    }

pub returns : goal.returns
returns g c =
    let key = g.U.Key.ByteString.bytes in
    let batch = ap (λ s. s.batch) c.self.view_is in
    let more = c.in_ok-staged.ensures.reads in
    let keys = staged-keys-more g.U.Update.view key c.in_ok-staged.staged.reads c.args.self.reads c.in_ok-found.found.items c.args.keys.items more c.in_ok-found.ensures.keys in
    let had = staged_keys c.args.self in
    record {
      range = (
        c.len-start.ensures,
        c.len.ensures ∙ ap length keys ∙ length-append had (map key c.args.keys.items) ∙ ap (λ n. length had + n) (length-map c.args.keys.items key),
      );
      values = λ list chain above is staged known.
          let value = g.U.Value.ByteString.bytes in
          let begun = subst (λ b. IsBegun (hashing_of g.D.Digest.bytes g.H.Hasher g.F.Family g.U.Update) b chain above) (sym batch) staged.begun in
          c.in_ok-found.ensures.values list chain above is begun known
          ∙ ap (λ b. map (λ k. read_through chain.base b.writes (key k)) c.args.keys.items) batch;
      staged = λ list chain above is staged known.
          let hashing = hashing_of g.D.Digest.bytes g.H.Hasher g.F.Family g.U.Update in
          let begun = subst (λ b. IsBegun hashing b chain above) (sym batch) staged.begun in
          record {
            begun = subst (λ b. IsBegun hashing b chain above) (sym c.in_ok-staged.ensures.batch) staged.begun;
            reads = staged-more g.U.Update.view key chain.base c.in_ok-staged.staged.reads c.args.self.reads c.in_ok-found.found.items more staged.reads
                (c.in_ok-found.ensures.found list chain above is begun known);
          };
      batch = c.in_ok-staged.ensures.batch;
      keys = keys;
      reads = record {
        readable = subst (λ (b : Begun g.row.D.Denot). knows b.parent.bounds c.args.db.now.commitment ≡ true) batch c.in_ok-found.ensures.reads.readable;
        error = tt;
        whole = λ list is. tt;
        left = c.in_ok-found.ensures.reads.left;
      };
    }
