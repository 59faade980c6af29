use Rattle.std.proofs.Common.{◌≤◌, [], ap, arith, length, subst, suc, sym}
use Rattle.qm_model.proofs.Results.{ok-each}
use Rattle.qm_model.specs.Batches.{begun_on}
use Rattle.qm_any.specs.Databases as anys
use Rattle.qm_any.specs.Layouts.{layout_of}
use Rattle.qm_any.proofs.Offered.{ok-both}
use Rattle.qm_current.specs.Databases.{IsBegun, IsDatabase}
use Rattle.qm_databases.specs.Current.{IsBatch}
use Rattle.qm_databases.proofs.current.database.DbBatchableDb.new_batch.Goals as goal

pub returns : goal.returns
returns g c =
    let chunk = g.N.Chunks.LEN in
    let layout = layout_of chunk g.H.Digest.Digest.bytes g.H.Hasher g.F.Family g.U.Update g.I.Unordered in
    let hashing = layout.hashing in
    let db = c.args.self.now in
    let own = db.instance in
    let r = c.new_batch.result in
    ok-both r c.new_batch.ensures.value (ok-each (IsDatabase g.C.Store layout db) (λ list b. IsBegun hashing chunk b (begun_on own list) (begun_on own list)) r c.new_batch.ensures.begun) (λ b value begun n list number is.
    subst (λ k. IsBatch hashing chunk b (begun_on k list) (begun_on k list) []) number
    (record { begun = begun list is; writes = ap (λ x. x.writes) value.0; few = subst (λ (x : anys.Begun _). x.keep ≤ suc (length x.parent.bounds.ancestors)) (sym value.0) (omega arith) }))
