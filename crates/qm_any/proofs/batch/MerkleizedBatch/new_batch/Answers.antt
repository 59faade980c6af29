use Rattle.std.proofs.Common.{arith, sym, subst, None}
use Rattle.std.proofs.lemmas.Grind.{common_steps}
use Rattle.qm_model.proofs.Results.{ok-then}
use Rattle.qm_model.specs.Batches.{child_of}
use Rattle.qm_any.specs.Databases.{IsBegun}
use Rattle.qm_any.proofs.Resting.{child-all}
use Rattle.qm_any.proofs.batch.MerkleizedBatch.new_batch.Goals as goal

pub returns-clause-value : goal.returns-clause-value
returns-clause-value g c = grind (arith, common_steps)

pub returns-clause-begun : goal.returns-clause-begun
returns-clause-begun g c = λ hashing chain tip is.
    ok-then c.new_batch_keeping.result (returns-clause-value g c) (λ b value.
    subst (λ x. IsBegun hashing x (child_of None chain tip) chain) (sym value) (child-all c.args.batch.now.value chain tip is))
