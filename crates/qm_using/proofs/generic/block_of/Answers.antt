use Rattle.std.proofs.Common.{inl, refl}
use Rattle.qm_model.proofs.Results.{ok-then}
use Rattle.qm_model.specs.Batches.{begun_on}
use Rattle.qm_using.proofs.generic.block_of.Goals as goal

pub returns-clause-makes : goal.returns-clause-makes
returns-clause-makes g c = λ n list numbered is.
    let chain = begun_on n list in
    ok-then c.merkleize.result (c.merkleize.ensures.makes list chain chain _ is (c.in_ok-batch-2.ensures chain chain _ (c.in_ok-batch.ensures n list numbered is))).made (λ b made. (made (inl refl)).1)
