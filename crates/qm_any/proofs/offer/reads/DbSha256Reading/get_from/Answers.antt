use Rattle.std.proofs.Common.{◌≡◌, ◌∙◌, sym, subst, map, option_map}
use Rattle.qm_model.proofs.Results.{err-both, ok-then}
use Rattle.qm_model.specs.Live.{value_of}
use Rattle.qm_any.specs.Databases.{IsDatabase, IsMade}
use Rattle.qm_chain.specs.Bounds.{knows}
use Rattle.qm_any.proofs.Offered.{knows-readable, kept-items, read-failure, made-reads}
use Rattle.qm_any.proofs.offer.reads.DbSha256Reading.get_from.Goals as goal
use Rattle.qm_any.specs.Offered.{sha256_hashing, sha256_layout}

pub returns-clause-readable : goal.returns-clause-readable
returns-clause-readable g c =
    let hashing = sha256_hashing g.F.Family.shape g.U.Update.form in
    ok-then c.get_many.result c.get_many.ensures.reads.readable
    (λ values can list chain tip is batch. sym (knows-readable hashing list chain tip c.args.self.now.commitment c.deref.result.now.bounds is.commitment ((subst (λ b. IsMade hashing b chain tip) (sym c.deref.ensures) batch).bounds)) ∙ can)

pub returns-clause-values : goal.returns-clause-values
returns-clause-values g c =
    let hashing = sha256_hashing g.F.Family.shape g.U.Update.form in
    made-reads c.get_many.result (IsDatabase g.C.Store (sha256_layout g.F.Family.shape g.N.Chunks.LEN g.U.Update.form g.I.Unordered.index_key) c.args.self.now) (IsMade hashing c.args.batch.now.value) (λ v tip. map (option_map g.U.Value.ByteString.bytes) v.items ≡ map (λ k. value_of tip (g.U.Key.ByteString.bytes k)) c.args.keys.now)
    (λ list chain tip is batch known. c.get_many.ensures.values list chain tip is (subst (λ b. IsMade hashing b chain tip) (sym c.deref.ensures) batch) known)

pub returns-clause-failure : goal.returns-clause-failure
returns-clause-failure g c =
    let hashing = sha256_hashing g.F.Family.shape g.U.Update.form in
    err-both c.get_many.result c.get_many.ensures.reads.error (kept-items g.C.Store (sha256_layout g.F.Family.shape g.N.Chunks.LEN g.U.Update.form g.I.Unordered.index_key) c.args.self.now c.get_many.result c.get_many.ensures.reads.whole)
    (λ e why kept list chain tip is batch.
    read-failure g.C.Store c.args.self.now.log c.get_many.new.db.log (knows c.deref.result.now.bounds c.args.self.now.commitment) e _ list chain tip
    (knows-readable hashing list chain tip c.args.self.now.commitment c.deref.result.now.bounds is.commitment ((subst (λ b. IsMade hashing b chain tip) (sym c.deref.ensures) batch).bounds)) (kept list is) why)
