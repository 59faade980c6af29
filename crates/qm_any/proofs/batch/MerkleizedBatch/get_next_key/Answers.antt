use Rattle.std.proofs.Common.{◌∙◌, ap, subst, sym, map, ◌≡◌, true, false, inl, inr}
use Rattle.qm_step.specs.Layers.{LeadOver}
use Rattle.qm_any.proofs.Known.{made-base}
use Rattle.std.proofs.lemmas.Result.{IfOk-from_err, err_from_is_err_and}
use Rattle.qm_model.proofs.Results.{err-then}
use Rattle.qm_chain.specs.Bounds.{knows}
use Rattle.qm_any.specs.Layouts.{hashing_of}
use Rattle.qm_any.proofs.Reading.{left-none}
use Rattle.qm_any.proofs.Reasons.{on-ok}
use Rattle.qm_any.proofs.batch.MerkleizedBatch.get_next_key.Goals as goal

pub returns-in_err-known : goal.returns-in_err-known
returns-in_err-known g c =
    let exit = err_from_is_err_and c.from_residual.result c.from_residual.ensures.1 in
    let told : knows c.args.self.now.bounds c.args.db.now.commitment ≡ false = sym (ap (knows c.args.self.now.bounds) c.commitment.ensures.value) ∙ c.in_err-known.ensures.stale.1 in
    let stale = c.in_err-known.ensures.stale.0 in
    record {
      value = λ list chain tip stands made known. IfOk-from_err c.from_residual.result _ c.from_residual.ensures.0;
      reads = record {
        readable = IfOk-from_err c.from_residual.result _ c.from_residual.ensures.0;
        error = rw (exit.1, exit.2) (inl (stale, told));
        whole = λ list is. rw (exit.1, exit.2) (λ n pruned. cc (stale, pruned));
        left = left-none g.C.Store (hashing_of g.D.Digest.bytes g.H.Hasher g.F.Family g.U.Update) c.args.db.now;
      };
    }

pub returns : goal.returns
returns g c =
    let told : knows c.args.self.now.bounds c.args.db.now.commitment ≡ true = sym (ap (knows c.args.self.now.bounds) c.commitment.ensures.value) ∙ c.in_ok-known.ensures.readable in
    record {
      value = λ list chain tip stands made known.
          let layers = ap (map (λ l. l.value)) c.deref.ensures.value ∙ ap (λ b. b.layers) c.self.view_is in
          let base = subst (λ ls. LeadOver ls list tip) (sym layers) (made-base c.args.self.now list chain tip made known) in
          c.next_over.ensures.value list tip stands base (made.ring c.requires);
      reads = record {
        readable = on-ok c.next_over.result told;
        error = err-then c.next_over.result c.next_over.ensures.reads.error (λ e failed. inr (inr (told, failed)));
        whole = c.next_over.ensures.reads.whole;
        left = c.next_over.ensures.reads.left;
      };
    }
