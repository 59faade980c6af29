use Rattle.std.proofs.Common.{◌≡◌, ◌∙◌, ap, ap₂, subst, sym, map, true, false, inl, inr}
use Rattle.std.specs.Prelude.{option_map, IfOk}
use Rattle.qm_model.specs.Writes.{read_through}
use Rattle.qm_step.specs.Layers.{LeadOver}
use Rattle.qm_any.proofs.Known.{made-base}
use Rattle.std.proofs.lemmas.Result.{IfOk-from_err, err_from_is_err_and}
use Rattle.qm_model.proofs.Results.{err-then}
use Rattle.qm_chain.specs.Bounds.{knows}
use Rattle.qm_any.specs.Layouts.{hashing_of}
use Rattle.qm_any.proofs.Reading.{left-none}
use Rattle.qm_any.proofs.Reasons.{on-ok}
use Rattle.qm_any.proofs.batch.UnmerkleizedBatch.get_many.Goals as goal

pub returns-in_err-known : goal.returns-in_err-known
returns-in_err-known g c =
    let exit = err_from_is_err_and c.from_residual.result c.from_residual.ensures.1 in
    let told : knows c.args.self.now.parent.bounds c.args.db.now.commitment ≡ false = sym (ap₂ knows (ap (λ b. b.bounds) (c.deref.ensures ∙ ap (λ b. b.parent) c.self.view_is)) c.commitment.ensures.value) ∙ c.in_err-known.ensures.stale.1 in
    let stale = c.in_err-known.ensures.stale.0 in
    record {
      values = λ list chain above stands begun known. IfOk-from_err c.from_residual.result _ c.from_residual.ensures.0;
      reads = record {
        readable = IfOk-from_err c.from_residual.result _ c.from_residual.ensures.0;
        error = rw (exit.1, exit.2) (inl (stale, told));
        whole = λ list is. rw (exit.1, exit.2) (λ n pruned. cc (stale, pruned));
        left = left-none g.C.Store (hashing_of g.D.Digest.bytes g.H.Hasher g.F.Family g.U.Update) c.args.db.now;
      };
    }

pub returns : goal.returns
returns g c =
    let told : knows c.args.self.now.parent.bounds c.args.db.now.commitment ≡ true = sym (ap₂ knows (ap (λ b. b.bounds) (c.deref.ensures ∙ ap (λ b. b.parent) c.self.view_is)) c.commitment.ensures.value) ∙ c.in_ok-known.ensures.readable in
    record {
      values = λ list chain above stands begun known.
          let key = g.U.Key.ByteString.bytes in
          let value = g.U.Value.ByteString.bytes in
          let parent = c.behind-self.view_is ∙ c.deref-2.ensures ∙ ap (λ b. b.parent) c.self.view_is in
          let layers = ap (map (λ l. l.value)) c.deref-3.ensures.value ∙ ap (λ b. b.layers) parent in
          let base = subst (λ ls. LeadOver ls list chain.base) (sym layers)
          (made-base (c.args.self.now).parent list above chain.base begun.parent known) in
          subst (λ ws. IfOk c.read_all.result (λ v. map (option_map value) v.items ≡ map (λ k. read_through chain.base ws (key k)) c.args.keys.now))
          (ap (λ b. b.writes) c.self.view_is)
          (c.read_all.ensures.values list chain.base stands base);
      reads = record {
        readable = on-ok c.read_all.result told;
        error = err-then c.read_all.result c.read_all.ensures.reads.error (λ e failed. inr (inr (told, failed)));
        whole = c.read_all.ensures.reads.whole;
        left = c.read_all.ensures.reads.left;
      };
    }
