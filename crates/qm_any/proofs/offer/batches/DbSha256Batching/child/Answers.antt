use Rattle.std.proofs.Common.{None, Some, sym, ap, subst}
use Rattle.qm_model.proofs.Results.{ok-then}
use Rattle.qm_model.specs.Batches.{child_of}
use Rattle.qm_any.specs.Databases.{IsBegun}
use Rattle.qm_any.proofs.Resting.{child-all, child-first}
use Rattle.qm_any.proofs.offer.batches.DbSha256Batching.child.Goals as goal
use Rattle.qm_any.specs.Offered.{sha256_hashing}

pub returns-in-None : goal.returns-in-None
returns-in-None g c =
    let hashing = sha256_hashing g.F.Family.shape g.U.Update.form in
    rw c.in-None.is (ok-then c.new_batch.result c.new_batch.ensures.value (λ b begun chain tip batch. (
      subst (λ x. IsBegun hashing x (child_of None chain tip) chain) (sym begun) (child-all c.args.batch.now.value chain tip batch),
      ap (λ x. x.writes) begun,
    )))

pub returns-in-Some : goal.returns-in-Some
returns-in-Some g c =
    let hashing = sha256_hashing g.F.Family.shape g.U.Update.form in
    rw c.in-Some.is (ok-then c.new_batch_keeping.result c.new_batch_keeping.ensures.value (λ b begun chain tip batch. (
      subst (λ x. IsBegun hashing x (child_of (Some c.in-Some.n) chain tip) chain) (sym begun) (child-first c.in-Some.n c.args.batch.now.value chain tip batch),
      ap (λ x. x.writes) begun,
    )))
