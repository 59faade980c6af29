use Rattle.std.proofs.Common.{◌∙◌, ap, subst, sym}
use Rattle.qm_any.specs.Databases.{IsMade}
use Rattle.qm_any.proofs.offer.reads.DbSha256Reading.ops.Goals as goal
use Rattle.qm_any.specs.Offered.{sha256_hashing}

pub returns : goal.returns
returns g c = λ chain tip batch.
    let hashing = sha256_hashing g.F.Family.shape g.U.Update.form in
    let made = subst (λ b. IsMade hashing b chain tip) (sym c.deref.ensures) batch in (
      c.get.ensures ∙ c.operations-base.ensures.base ∙ ap (λ k. k.size) made.bounds.base,
      c.in_ok-own.ensures ∙ c.operations-base.ensures.own hashing chain tip made,
    )
