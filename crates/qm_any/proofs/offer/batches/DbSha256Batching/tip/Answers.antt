use Rattle.std.proofs.Common.{ap, sym, subst}
use Rattle.qm_model.proofs.Results.{ok-then}
use Rattle.qm_model.specs.Batches.{begun_on}
use Rattle.qm_any.specs.Databases.{IsMade}
use Rattle.qm_any.proofs.Resting.{rest-made}
use Rattle.qm_any.proofs.offer.batches.DbSha256Batching.tip.Goals as goal
use Rattle.qm_any.specs.Offered.{sha256_hashing}

pub returns : goal.returns
returns g c =
    let hashing = sha256_hashing g.F.Family.shape g.U.Update.form in
    ok-then c.to_batch.result c.to_batch.ensures.value (λ b made n list numbered is.
    (subst (λ x. IsMade hashing x (begun_on n list) list) (sym made) (rest-made n c.args.self.now list is), ap (λ x. x.evicted) made))
