use Rattle.std.proofs.Common.{inl, refl}
use Rattle.qm_model.specs.Batches.{begun_on}
use Rattle.qm_using.proofs.generic.record.Goals as goal

pub returns-in-Ok-apply_batch : goal.returns-in-Ok-apply_batch
returns-in-Ok-apply_batch g c = λ n list numbered is.
    c.commit.ensures.stands _ (c.in-Ok-apply_batch.ensures.applied list (begun_on n list) _ (c.in-Ok.ensures.same list is) (c.in-Ok.ensures.makes n list numbered is) (inl refl))
