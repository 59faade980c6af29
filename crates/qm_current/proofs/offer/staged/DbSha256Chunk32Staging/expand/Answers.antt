use Rattle.std.proofs.Common.{◌≡◌, ◌∙◌, ap, sym, map, option_map, refl, Err}
use Rattle.qm_model.proofs.Results.{err-both, err-then, ok-then}
use Rattle.qm_model.specs.Writes.{read_through}
use Rattle.qm_chain.specs.Bounds.{knows}
use Rattle.qm_base.specs.declared.error.Error.TheVariants.{Journal, Memory}
use Rattle.qm_base.specs.declared.error.JournalError.TheVariants.{Store}
use Rattle.qm_any.specs.Databases as anys
use Rattle.qm_any.specs.Offered.{sha256_hashing, sha256_layout}
use Rattle.qm_any.proofs.Offered.{err-of, left-store, knows-readable, kept-items, read-failure, rose-read, never-read, memory-failure, memory-not_stale, unread-memory}
use Rattle.qm_current.specs.Databases.{Database}
use Rattle.qm_current.specs.Making.{IsLeft}
use Rattle.qm_current.specs.Offered.{IsOffered, offered_chunk}
use Rattle.qm_current.proofs.Offering.{left-offered, more-staged}
use Rattle.qm_current.proofs.offer.staged.DbSha256Chunk32Staging.expand.Goals as goal

pub returns-in-Err : goal.returns-in-Err
returns-in-Err g c = record {
  readable = tt;
  range = tt;
  values = tt;
  failure = λ list chain above ws keys is batch. memory-failure _ _ _ _;
  reads = unread-memory _ g.C.Store c.args.self.now (Err Memory) Memory refl refl;
  never = memory-not_stale;
}

pub returns-in-Ok : goal.returns-in-Ok
returns-in-Ok g c =
    let members = g.C.Store in
    let size = offered_chunk in
    let hashing = sha256_hashing g.F.Family.shape g.U.Update.form in
    let layout = sha256_layout g.F.Family.shape size g.U.Update.form g.I.Unordered.index_key in
    let old = c.args.self.now in
    let new = c.expand.new.db in
    let r = c.expand.result in
    let said = c.expand.ensures in
    let staged = c.args.batch in
    let current = old.any.commitment in
    let bounds = staged.any.batch.parent.bounds in
    let known = knows bounds current in
    let left : IsLeft members layout old new = record { any = said.reads.left; rest = said.rest } in
    record {
      readable =
          ok-then r said.reads.readable
          (λ values can list chain above ws keys is batch. sym (knows-readable hashing list above chain.base current bounds is.at.any.commitment (batch.0.any.begun).parent.bounds) ∙ can);
      range = rw (sym c.in-Ok.ensures) said.range;
      values =
          rw (sym c.in-Ok.ensures) (more-staged hashing size r (anys.IsDatabase members layout old.any) (IsOffered members layout old) staged (map g.U.Key.ByteString.bytes c.in-Ok.keys.items)
          (λ v base ws. map (option_map g.U.Value.ByteString.bytes) v.items ≡ map (λ k. read_through base ws (g.U.Key.ByteString.bytes k)) c.in-Ok.keys.items) (λ list is. is.at.any)
          said.values said.staged said.batch said.keys);
      failure =
          err-both r said.reads.error (kept-items members layout old.any r said.reads.whole)
          (λ e why kept list chain above ws keys is batch.
          read-failure members old.any.log new.any.log known e _ list above chain.base
          (knows-readable hashing list above chain.base current bounds is.at.any.commitment (batch.0.any.begun).parent.bounds) (kept list is.at.any) why);
      reads = record {
        same = left-offered members layout old new left;
        numbered = λ n is. ap (λ (d : Database _ _). d.instance) said.rest ∙ is;
        store = left-store members hashing old.any new.any said.reads.left;
        faults = record {
          later = (said.reads.left).read.keeps.later;
          failed = err-of r (Journal Store) _ (err-then r said.reads.error (λ e why fault. rose-read members old.any.log new.any.log known e why fault));
        };
      };
      never = err-then r said.reads.error (λ e why. never-read members old.any.log new.any.log known e why);
    }
