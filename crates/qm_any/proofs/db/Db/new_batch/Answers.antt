use Rattle.std.proofs.Common.{arith, sym, subst, refl}
use Rattle.std.proofs.lemmas.Grind.{common_steps}
use Rattle.qm_model.specs.Batches.{begun_on}
use Rattle.qm_any.specs.Layouts.{hashing_of}
use Rattle.qm_any.specs.Databases.{IsBegun}
use Rattle.qm_any.proofs.Resting.{rest-made}
use Rattle.qm_any.proofs.db.Db.new_batch.Goals as goal

pub returns-clause-value : goal.returns-clause-value
returns-clause-value g c = grind (arith, common_steps)

pub returns-clause-begun : goal.returns-clause-begun
returns-clause-begun g c = λ n list stands.
    subst (λ b. IsBegun (hashing_of g.H.Digest.Digest.bytes g.H.Hasher g.F.Family g.U.Update) b (begun_on n list) (begun_on n list)) (sym (returns-clause-value g c)) (record { parent = rest-made n c.args.self.now list stands; kept = refl })
