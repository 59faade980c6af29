use Rattle.std.proofs.Common.{◌≡◌, ◌∙◌, ap, ap₂, subst, sym, map, refl, true, false, inl, inr}
use Rattle.std.specs.Prelude.{option_map}
use Rattle.qm_model.specs.Writes.{read_through}
use Rattle.qm_step.specs.Layers.{LeadOver}
use Rattle.qm_any.proofs.Known.{made-base}
use Rattle.std.proofs.lemmas.Result.{IfOk-from_err, err_from_is_err_and}
use Rattle.qm_step.specs.Views.{read_view}
use Rattle.qm_step.proofs.Steps.{map-twice}
use Rattle.qm_any.specs.Databases.{read_under}
use Rattle.qm_any.proofs.Staging.{read-through}
use Rattle.qm_chain.specs.Bounds.{knows}
use Rattle.qm_any.specs.Layouts.{hashing_of}
use Rattle.qm_any.proofs.Reading.{left-none}
use Rattle.qm_any.proofs.batch.UnmerkleizedBatch.located.Goals as goal

pub returns-in_err-known : goal.returns-in_err-known
returns-in_err-known g c =
    let exit = err_from_is_err_and c.from_residual.result c.from_residual.ensures.1 in
    let told : knows c.args.self.now.parent.bounds c.args.db.now.commitment ≡ false = sym (ap₂ knows (ap (λ b. b.bounds) (c.deref.ensures ∙ ap (λ b. b.parent) c.self.view_is)) c.commitment.ensures.value) ∙ c.in_err-known.ensures.stale.1 in
    let stale = c.in_err-known.ensures.stale.0 in
    record {
      keys = IfOk-from_err c.from_residual.result _ c.from_residual.ensures.0;
      found = λ list chain above stands begun known. IfOk-from_err c.from_residual.result _ c.from_residual.ensures.0;
      values = λ list chain above stands begun known. IfOk-from_err c.from_residual.result _ c.from_residual.ensures.0;
      reads = record {
        readable = IfOk-from_err c.from_residual.result _ c.from_residual.ensures.0;
        error = rw (exit.1, exit.2) (inl (stale, told));
        whole = λ list is. rw (exit.1, exit.2) (λ n pruned. cc (stale, pruned));
        left = left-none g.C.Store (hashing_of g.D.Digest.bytes g.H.Hasher g.F.Family g.U.Update) c.args.db.now;
      };
    }

pub returns-in_err-reads : goal.returns-in_err-reads
returns-in_err-reads g c =
    let exit = err_from_is_err_and c.from_residual-in_err-reads.result c.from_residual-in_err-reads.ensures.1 in
    let told : knows c.args.self.now.parent.bounds c.args.db.now.commitment ≡ true = sym (ap₂ knows (ap (λ b. b.bounds) (c.deref.ensures ∙ ap (λ b. b.parent) c.self.view_is)) c.commitment.ensures.value) ∙ c.in_ok-known.ensures.readable in
    record {
      keys = IfOk-from_err c.from_residual-in_err-reads.result _ c.from_residual-in_err-reads.ensures.0;
      found = λ list chain above stands begun known. IfOk-from_err c.from_residual-in_err-reads.result _ c.from_residual-in_err-reads.ensures.0;
      values = λ list chain above stands begun known. IfOk-from_err c.from_residual-in_err-reads.result _ c.from_residual-in_err-reads.ensures.0;
      reads = record {
        readable = IfOk-from_err c.from_residual-in_err-reads.result _ c.from_residual-in_err-reads.ensures.0;
        error = rw (exit.1, exit.2) (inr (inr (told, c.in_err-reads.ensures.reads.error)));
        whole = λ list is. rw (exit.1, exit.2) (c.in_err-reads.ensures.reads.whole list is);
        left = c.in_err-reads.ensures.reads.left;
      };
    }

pub returns-in_err-values : goal.returns-in_err-values
returns-in_err-values g c =
    let exit = err_from_is_err_and c.from_residual-in_err-values.result c.from_residual-in_err-values.ensures.1 in
    record {
      keys = IfOk-from_err c.from_residual-in_err-values.result _ c.from_residual-in_err-values.ensures.0;
      found = λ list chain above stands begun known. IfOk-from_err c.from_residual-in_err-values.result _ c.from_residual-in_err-values.ensures.0;
      values = λ list chain above stands begun known. IfOk-from_err c.from_residual-in_err-values.result _ c.from_residual-in_err-values.ensures.0;
      reads = record {
        readable = IfOk-from_err c.from_residual-in_err-values.result _ c.from_residual-in_err-values.ensures.0;
        error = rw (exit.1, exit.2) (inr (inl refl));
        whole = λ list is. rw (exit.1, exit.2) (λ n pruned. cc);
        left = c.in_ok-reads.ensures.reads.left;
      };
    }

pub returns : goal.returns
returns g c =
    let key = g.U.Key.ByteString.bytes in
    let told : knows c.args.self.now.parent.bounds c.args.db.now.commitment ≡ true = sym (ap₂ knows (ap (λ b. b.bounds) (c.deref.ensures ∙ ap (λ b. b.parent) c.self.view_is)) c.commitment.ensures.value) ∙ c.in_ok-known.ensures.readable in
    let parent = c.behind-self.view_is ∙ c.deref-2.ensures ∙ ap (λ b. b.parent) c.self.view_is in
    let layers = ap (map (λ l. l.value)) c.deref-3.ensures.value ∙ ap (λ b. b.layers) parent in
    record {
      keys = c.in_ok-reads.ensures.keys;
      found = λ list chain above stands begun known.
          let base = subst (λ ls. LeadOver ls list chain.base) (sym layers)
          (made-base (c.args.self.now).parent list above chain.base begun.parent known) in
          c.in_ok-reads.ensures.found list chain.base stands base;
      values = λ list chain above stands begun known.
          let writes = c.args.self.now.writes in
          let base = subst (λ ls. LeadOver ls list chain.base) (sym layers)
          (made-base (c.args.self.now).parent list above chain.base begun.parent known) in
          c.in_ok-values.ensures
          ∙ ap (λ ws. map (λ r. read_under ws (key r.key) (option_map (read_view g.U.Update.view) r.found)) c.deref-4.result.now) (ap (λ b. b.writes) c.self.view_is)
          ∙ ap (map (λ r. read_under writes (key r.key) (option_map (read_view g.U.Update.view) r.found))) c.deref-4.ensures.value
          ∙ read-through g.U.Update.view key chain.base writes c.in_ok-reads.reads.items (c.in_ok-reads.ensures.found list chain.base stands base)
          ∙ ap (map (read_through chain.base writes)) c.in_ok-reads.ensures.keys
          ∙ map-twice (read_through chain.base writes) key c.args.keys.items;
      reads = record {
        readable = told;
        error = tt;
        whole = λ list is. tt;
        left = c.in_ok-reads.ensures.reads.left;
      };
    }
