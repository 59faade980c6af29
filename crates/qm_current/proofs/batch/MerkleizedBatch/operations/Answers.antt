use Rattle.std.proofs.Common.{◌∙◌, ap, subst, sym}
use Rattle.qm_any.specs.Databases as anys
use Rattle.qm_current.specs.Databases.{Made}
use Rattle.qm_current.proofs.batch.MerkleizedBatch.operations.Goals as goal

pub returns-clause-own : goal.returns-clause-own
returns-clause-own g c = λ hashing chain tip made.
    let any_is = c.deref.ensures ∙ ap (λ (b : Made g.row.D.Denot). b.any) c.self.view_is in
    c.operations.ensures.own hashing chain tip (subst (λ b. anys.IsMade hashing b chain tip) (sym any_is) made.any)
