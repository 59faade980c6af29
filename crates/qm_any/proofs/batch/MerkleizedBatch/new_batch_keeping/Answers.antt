use Rattle.std.proofs.Common.{arith, sym, subst, Some}
use Rattle.std.proofs.lemmas.Result.{IfOk-from_err}
use Rattle.std.proofs.lemmas.Grind.{common_steps}
use Rattle.qm_model.specs.Batches.{child_of}
use Rattle.qm_any.specs.Databases.{IsBegun}
use Rattle.qm_any.proofs.Resting.{child-first}
use Rattle.qm_any.proofs.batch.MerkleizedBatch.new_batch_keeping.Goals as goal

pub returns-clause-value : goal.returns-clause-value
returns-clause-value g c = grind (arith, common_steps)

pub returns-clause-begun : goal.returns-clause-begun
returns-clause-begun g c = λ hashing chain tip is.
    subst (λ b. IsBegun hashing b (child_of (Some c.args.n) chain tip) chain) (sym (returns-clause-value g c)) (child-first c.args.n c.args.batch.now.value chain tip is)

pub returns-in_err-parent : goal.returns-in_err-parent
returns-in_err-parent g c =
    record {
      value = IfOk-from_err c.from_residual.result _ c.from_residual.ensures.0;
      begun = λ hashing chain tip is. IfOk-from_err c.from_residual.result _ c.from_residual.ensures.0;
    }
