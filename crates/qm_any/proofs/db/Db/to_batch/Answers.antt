use Rattle.std.proofs.Common.{arith, sym, subst}
use Rattle.std.proofs.lemmas.Grind.{common_steps}
use Rattle.qm_model.proofs.Results.{ok-then}
use Rattle.qm_model.specs.Batches.{begun_on}
use Rattle.qm_any.specs.Layouts.{hashing_of}
use Rattle.qm_any.specs.Databases.{IsMade}
use Rattle.qm_any.proofs.Resting.{rest-made}
use Rattle.qm_any.proofs.db.Db.to_batch.Goals as goal

pub returns-clause-value : goal.returns-clause-value
returns-clause-value g c = grind (arith, common_steps)

pub returns-clause-made : goal.returns-clause-made
returns-clause-made g c = λ n list stands.
    ok-then c.at_rest.result (returns-clause-value g c) (λ b is.
    subst (λ x. IsMade (hashing_of g.H.Digest.Digest.bytes g.H.Hasher g.F.Family g.U.Update) x (begun_on n list) list) (sym is) (rest-made n c.args.self.now list stands))
