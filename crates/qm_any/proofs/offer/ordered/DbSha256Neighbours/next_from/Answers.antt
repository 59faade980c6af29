use Rattle.std.proofs.Common.{◌≡◌, ◌∙◌, sym, subst, option_map}
use Rattle.qm_model.proofs.Results.{err-both, err-then, ok-then}
use Rattle.qm_model.specs.Live.{live_keys}
use Rattle.qm_model.specs.Ranges.{key_above}
use Rattle.qm_any.specs.Databases.{IsDatabase, IsMade}
use Rattle.qm_any.proofs.Reading.{left-database}
use Rattle.qm_chain.specs.Bounds.{knows}
use Rattle.qm_base.specs.declared.error.Error.TheVariants.{Journal}
use Rattle.qm_base.specs.declared.error.JournalError.TheVariants.{Store}
use Rattle.qm_any.proofs.Offered.{err-of, left-store, knows-readable, kept-items, read-failure, rose-read, never-read, made-reads, unoffered, unread-answer}
use Rattle.qm_any.proofs.offer.ordered.DbSha256Neighbours.next_from.Goals as goal
use Rattle.qm_any.specs.Offered.{sha256_hashing, sha256_layout}

pub returns-then-not-is_ordered : goal.returns-then-not-is_ordered
returns-then-not-is_ordered g c = record {
  readable = λ ordered. unoffered _ _ c.is_ordered.ensures c.if-not-is_ordered.true ordered;
  above = λ ordered. unoffered _ _ c.is_ordered.ensures c.if-not-is_ordered.true ordered;
  failure = tt;
  reads = unread-answer _ g.C.Store c.args.self.now _;
  never = tt;
}

pub returns : goal.returns
returns g c = record {
  readable =
      ok-then c.get_next_key.result c.get_next_key.ensures.reads.readable
      (λ key can ordered list chain tip is batch. sym (knows-readable (sha256_hashing g.F.Family.shape g.U.Update.form) list chain tip c.args.self.now.commitment c.deref.result.now.bounds is.commitment (subst (λ b. IsMade (sha256_hashing g.F.Family.shape g.U.Update.form) b chain tip) (sym c.deref.ensures) batch).bounds) ∙ can);
  above =
      ok-then c.get_next_key.result
      (made-reads c.get_next_key.result (IsDatabase g.C.Store (sha256_layout g.F.Family.shape g.N.Chunks.LEN g.U.Update.form g.I.Unordered.index_key) c.args.self.now) (IsMade (sha256_hashing g.F.Family.shape g.U.Update.form) c.args.batch.now.value) (λ k tip. option_map g.U.Key.ByteString.bytes k ≡ key_above (live_keys tip) (g.U.Key.ByteString.bytes c.args.key.now))
      (λ list chain tip is batch known. c.get_next_key.ensures.value list chain tip is (subst (λ b. IsMade (sha256_hashing g.F.Family.shape g.U.Update.form) b chain tip) (sym c.deref.ensures) batch) known))
      (λ k given ordered. given);
  failure =
      err-both c.get_next_key.result c.get_next_key.ensures.reads.error (kept-items g.C.Store (sha256_layout g.F.Family.shape g.N.Chunks.LEN g.U.Update.form g.I.Unordered.index_key) c.args.self.now c.get_next_key.result c.get_next_key.ensures.reads.whole)
      (λ e why kept list chain tip is batch.
      read-failure g.C.Store c.args.self.now.log c.get_next_key.new.db.log (knows c.deref.result.now.bounds c.args.self.now.commitment) e _ list chain tip
      (knows-readable (sha256_hashing g.F.Family.shape g.U.Update.form) list chain tip c.args.self.now.commitment c.deref.result.now.bounds is.commitment (subst (λ b. IsMade (sha256_hashing g.F.Family.shape g.U.Update.form) b chain tip) (sym c.deref.ensures) batch).bounds) (kept list is) why);
  reads = record {
    same = λ list is. left-database g.C.Store (sha256_layout g.F.Family.shape g.N.Chunks.LEN g.U.Update.form g.I.Unordered.index_key) c.args.self.now c.get_next_key.new.db list c.get_next_key.ensures.reads.left is;
    numbered = λ n is. tt;
    store = left-store g.C.Store (sha256_hashing g.F.Family.shape g.U.Update.form) c.args.self.now c.get_next_key.new.db c.get_next_key.ensures.reads.left;
    faults = record {
      later = (c.get_next_key.ensures.reads.left).read.keeps.later;
      failed = err-of c.get_next_key.result (Journal Store) _ (err-then c.get_next_key.result c.get_next_key.ensures.reads.error (λ e why fault. rose-read g.C.Store c.args.self.now.log c.get_next_key.new.db.log (knows c.deref.result.now.bounds c.args.self.now.commitment) e why fault));
    };
  };
  never = err-then c.get_next_key.result c.get_next_key.ensures.reads.error (λ e why. never-read g.C.Store c.args.self.now.log c.get_next_key.new.db.log (knows c.deref.result.now.bounds c.args.self.now.commitment) e why);
}
