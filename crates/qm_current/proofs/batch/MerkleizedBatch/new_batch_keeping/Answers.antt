use Rattle.std.proofs.Common.{arith, sym, subst, Some}
use Rattle.std.proofs.lemmas.Grind.{common_steps}
use Rattle.qm_model.specs.Batches.{child_of}
use Rattle.qm_any.specs.Databases.{IsBegun}
use Rattle.qm_any.proofs.Resting.{child-first}
use Rattle.qm_current.proofs.Resting.{follows}
use Rattle.qm_current.proofs.batch.MerkleizedBatch.new_batch_keeping.Goals as goal

pub returns-clause-any : goal.returns-clause-any
returns-clause-any g c = grind (arith, common_steps)

pub returns-clause-rest : goal.returns-clause-rest
returns-clause-rest g c = grind (arith, common_steps)

pub returns-clause-begun : goal.returns-clause-begun
returns-clause-begun g c = λ hashing chain tip made.
    let rest = returns-clause-rest g c in
    follows hashing g.N.Chunks.LEN _ c.args.batch.now.value (Some c.args.n) chain tip
    (subst (λ b. IsBegun hashing b (child_of (Some c.args.n) chain tip) chain) (sym (returns-clause-any g c)) (child-first c.args.n c.args.batch.now.value.any chain tip made.any))
    rest.0 rest.1 made
