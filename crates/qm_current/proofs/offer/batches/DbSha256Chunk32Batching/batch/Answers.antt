use Rattle.std.proofs.Common.{ap, subst}
use Rattle.qm_model.proofs.Results.{ok-each}
use Rattle.qm_model.specs.Batches.{begun_on}
use Rattle.qm_any.specs.Offered.{sha256_hashing, sha256_layout}
use Rattle.qm_any.proofs.Offered.{ok-both}
use Rattle.qm_current.specs.Databases.{IsBegun, IsDatabase}
use Rattle.qm_current.specs.Offered.{offered_chunk}
use Rattle.qm_current.proofs.offer.batches.DbSha256Chunk32Batching.batch.Goals as goal

pub returns : goal.returns
returns g c =
    let size = offered_chunk in
    let hashing = sha256_hashing g.F.Family.shape g.U.Update.form in
    let layout = sha256_layout g.F.Family.shape size g.U.Update.form g.I.Unordered.index_key in
    let db = c.args.self.now in
    let own = db.instance in
    let r = c.new_batch.result in
    ok-both r c.new_batch.ensures.value (ok-each (IsDatabase g.C.Store layout db) (λ list b. IsBegun hashing size b (begun_on own list) (begun_on own list)) r c.new_batch.ensures.begun) (λ b value begun n list number is. (
      subst (λ k. IsBegun hashing size b (begun_on k list) (begun_on k list)) number (begun list is.at),
      ap (λ x. x.writes) value.0,
    ))
