use Rattle.std.proofs.Common.{◌≡◌, ◌∙◌, sym, map, option_map, refl, Err}
use Rattle.qm_model.proofs.Results.{err-both, err-then, ok-then}
use Rattle.qm_model.specs.Writes.{read_through}
use Rattle.qm_chain.specs.Bounds.{knows}
use Rattle.qm_base.specs.declared.error.Error.TheVariants.{Journal, Memory}
use Rattle.qm_base.specs.declared.error.JournalError.TheVariants.{Store}
use Rattle.qm_any.specs.Databases.{IsDatabase}
use Rattle.qm_any.proofs.Reading.{left-database}
use Rattle.qm_any.proofs.Offered.{err-of, left-store, knows-readable, kept-items, read-failure, rose-read, never-read, begun-staged, memory-failure, memory-not_stale, unread-memory}
use Rattle.qm_any.proofs.offer.staged.DbSha256Staging.stage.Goals as goal
use Rattle.qm_any.specs.Offered.{sha256_hashing, sha256_layout}

pub returns-in-Err : goal.returns-in-Err
returns-in-Err g c = record {
  readable = tt;
  values = tt;
  failure = λ list chain above ws is batch. memory-failure _ _ _ _;
  reads = unread-memory _ g.C.Store c.args.self.now (Err Memory) Memory refl refl;
  never = memory-not_stale;
}

pub returns-in-Ok : goal.returns-in-Ok
returns-in-Ok g c =
    let hashing = sha256_hashing g.F.Family.shape g.U.Update.form in
    let layout = sha256_layout g.F.Family.shape g.N.Chunks.LEN g.U.Update.form g.I.Unordered.index_key in
    let old = c.args.self.now in
    let new = c.stage.new.db in
    let r = c.stage.result in
    let said = c.stage.ensures in
    let bounds = c.args.batch.parent.bounds in
    record {
      readable =
          ok-then r said.reads.readable
          (λ values can list chain above ws is batch. sym (knows-readable hashing list above chain.base old.commitment bounds is.commitment (batch.0).parent.bounds) ∙ can);
      values =
          rw (sym c.in-Ok.ensures) (begun-staged hashing r (IsDatabase g.C.Store layout old) c.args.batch (map g.U.Key.ByteString.bytes c.in-Ok.keys.items) (λ v base ws. map (option_map g.U.Value.ByteString.bytes) v.items ≡ map (λ k. read_through base ws (g.U.Key.ByteString.bytes k)) c.in-Ok.keys.items)
          said.values said.staged said.batch said.keys);
      failure =
          err-both r said.reads.error (kept-items g.C.Store layout old r said.reads.whole)
          (λ e why kept list chain above ws is batch.
          read-failure g.C.Store old.log new.log (knows bounds old.commitment) e _ list above chain.base
          (knows-readable hashing list above chain.base old.commitment bounds is.commitment (batch.0).parent.bounds) (kept list is) why);
      reads = record {
        same = λ list is. left-database g.C.Store layout old new list said.reads.left is;
        numbered = λ n is. tt;
        store = left-store g.C.Store hashing old new said.reads.left;
        faults = record {
          later = (said.reads.left).read.keeps.later;
          failed = err-of r (Journal Store) _ (err-then r said.reads.error (λ e why fault. rose-read g.C.Store old.log new.log (knows bounds old.commitment) e why fault));
        };
      };
      never = err-then r said.reads.error (λ e why. never-read g.C.Store old.log new.log (knows bounds old.commitment) e why);
    }
