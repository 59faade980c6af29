use Rattle.std.proofs.Common.{sym, subst, refl, arith, []}
use Rattle.qm_model.proofs.Results.{ok-then}
use Rattle.qm_model.specs.Batches.{begun_on}
use Rattle.qm_any.specs.Layouts.{hashing_of}
use Rattle.qm_any.proofs.Resting.{rest-made}
use Rattle.qm_databases.specs.Any.{IsBatch}
use Rattle.qm_databases.proofs.any.database.DbBatchableDb.new_batch.Goals as goal

pub returns : goal.returns
returns g c =
    let hashing = hashing_of g.H.Digest.Digest.bytes g.H.Hasher g.F.Family g.U.Update in
    ok-then c.new_batch.result c.new_batch.ensures.value (λ b begun n list numbered is.
    subst (λ x. IsBatch hashing x (begun_on n list) (begun_on n list) []) (sym begun)
    (record { begun = record { parent = rest-made n c.args.self.now list is; kept = refl }; writes = refl; few = omega arith }))
