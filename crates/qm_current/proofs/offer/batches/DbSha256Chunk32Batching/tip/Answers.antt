use Rattle.std.proofs.Common.{ap, subst}
use Rattle.qm_model.proofs.Results.{ok-each, ok-four}
use Rattle.qm_model.specs.Batches.{begun_on}
use Rattle.qm_any.specs.Offered.{sha256_hashing, sha256_layout}
use Rattle.qm_current.specs.Databases.{IsDatabase, IsMade}
use Rattle.qm_current.specs.Offered.{offered_chunk}
use Rattle.qm_current.proofs.offer.batches.DbSha256Chunk32Batching.tip.Goals as goal

pub returns : goal.returns
returns g c =
    let size = offered_chunk in
    let hashing = sha256_hashing g.F.Family.shape g.U.Update.form in
    let layout = sha256_layout g.F.Family.shape size g.U.Update.form g.I.Unordered.index_key in
    let db = c.args.self.now in
    let r = c.to_batch.result in
    ok-four r (ok-each (IsDatabase g.C.Store layout db) (λ list b. IsMade hashing size b.value (begun_on db.instance list) list) r c.to_batch.ensures.made) c.to_batch.ensures.value c.to_batch.ensures.value c.to_batch.ensures.value (λ b made value _ _ n list number is.
    (subst (λ k. IsMade hashing size b.value (begun_on k list) list) number (made list is.at), ap (λ x. x.evicted) value.0))
