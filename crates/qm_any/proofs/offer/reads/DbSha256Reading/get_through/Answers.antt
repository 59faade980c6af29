use Rattle.std.proofs.Common.{◌≡◌, ◌∙◌, sym, map, option_map}
use Rattle.qm_model.proofs.Results.{err-both, ok-then}
use Rattle.qm_model.specs.Writes.{read_through}
use Rattle.qm_any.specs.Databases.{IsDatabase}
use Rattle.qm_chain.specs.Bounds.{knows}
use Rattle.qm_any.proofs.Offered.{knows-readable, kept-items, read-failure, begun-reads}
use Rattle.qm_any.proofs.offer.reads.DbSha256Reading.get_through.Goals as goal
use Rattle.qm_any.specs.Offered.{sha256_hashing, sha256_layout}

pub returns-clause-readable : goal.returns-clause-readable
returns-clause-readable g c =
    ok-then c.get_many.result c.get_many.ensures.reads.readable
    (λ values can list chain above ws is batch. sym (knows-readable (sha256_hashing g.F.Family.shape g.U.Update.form) list above chain.base c.args.self.now.commitment c.args.batch.now.parent.bounds is.commitment batch.0.parent.bounds) ∙ can)

pub returns-clause-values : goal.returns-clause-values
returns-clause-values g c =
    begun-reads (sha256_hashing g.F.Family.shape g.U.Update.form) c.get_many.result (IsDatabase g.C.Store (sha256_layout g.F.Family.shape g.N.Chunks.LEN g.U.Update.form g.I.Unordered.index_key) c.args.self.now) c.args.batch.now (λ v base ws. map (option_map g.U.Value.ByteString.bytes) v.items ≡ map (λ k. read_through base ws (g.U.Key.ByteString.bytes k)) c.args.keys.now) c.get_many.ensures.values

pub returns-clause-failure : goal.returns-clause-failure
returns-clause-failure g c =
    err-both c.get_many.result c.get_many.ensures.reads.error (kept-items g.C.Store (sha256_layout g.F.Family.shape g.N.Chunks.LEN g.U.Update.form g.I.Unordered.index_key) c.args.self.now c.get_many.result c.get_many.ensures.reads.whole)
    (λ e why kept list chain above ws is batch.
    read-failure g.C.Store c.args.self.now.log c.get_many.new.db.log (knows c.args.batch.now.parent.bounds c.args.self.now.commitment) e _ list above chain.base
    (knows-readable (sha256_hashing g.F.Family.shape g.U.Update.form) list above chain.base c.args.self.now.commitment c.args.batch.now.parent.bounds is.commitment batch.0.parent.bounds) (kept list is) why)
