use Rattle.std.proofs.Common.{None, Some, ap}
use Rattle.qm_model.specs.Batches.{child_of}
use Rattle.qm_any.specs.Offered.{sha256_hashing}
use Rattle.qm_any.proofs.Offered.{ok-both}
use Rattle.qm_current.specs.Databases.{IsBegun, IsMade}
use Rattle.qm_current.specs.Offered.{offered_chunk}
use Rattle.qm_current.proofs.Offering.{made-each}
use Rattle.qm_current.proofs.offer.batches.DbSha256Chunk32Batching.child.Goals as goal

pub returns-in-None : goal.returns-in-None
returns-in-None g c =
    let size = offered_chunk in
    let hashing = sha256_hashing g.F.Family.shape g.U.Update.form in
    let r = c.new_batch.result in
    rw c.in-None.is (ok-both r c.new_batch.ensures.any (made-each r (IsMade hashing size c.args.batch.now.value) (λ b chain tip. IsBegun hashing size b (child_of None chain tip) chain) (c.new_batch.ensures.begun hashing))
    (λ b any begun chain tip made. (begun chain tip made, ap (λ x. x.writes) any)))

pub returns-in-Some : goal.returns-in-Some
returns-in-Some g c =
    let size = offered_chunk in
    let hashing = sha256_hashing g.F.Family.shape g.U.Update.form in
    let r = c.new_batch_keeping.result in
    rw c.in-Some.is (ok-both r c.new_batch_keeping.ensures.any (made-each r (IsMade hashing size c.args.batch.now.value) (λ b chain tip. IsBegun hashing size b (child_of (Some c.in-Some.n) chain tip) chain) (c.new_batch_keeping.ensures.begun hashing))
    (λ b any begun chain tip made. (begun chain tip made, ap (λ x. x.writes) any)))
