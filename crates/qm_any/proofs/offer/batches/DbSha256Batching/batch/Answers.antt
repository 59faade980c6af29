use Rattle.std.proofs.Common.{sym, ap, subst, refl}
use Rattle.qm_model.proofs.Results.{ok-then}
use Rattle.qm_model.specs.Batches.{begun_on}
use Rattle.qm_any.specs.Databases.{IsBegun}
use Rattle.qm_any.proofs.Resting.{rest-made}
use Rattle.qm_any.proofs.offer.batches.DbSha256Batching.batch.Goals as goal
use Rattle.qm_any.specs.Offered.{sha256_hashing}

pub returns : goal.returns
returns g c =
    let hashing = sha256_hashing g.F.Family.shape g.U.Update.form in
    ok-then c.new_batch.result c.new_batch.ensures.value (λ b begun n list numbered is. (
      subst (λ x. IsBegun hashing x (begun_on n list) (begun_on n list)) (sym begun) (record { parent = rest-made n c.args.self.now list is; kept = refl }),
      ap (λ x. x.writes) begun,
    ))
