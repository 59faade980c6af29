use Rattle.std.proofs.Common.{◌∙◌, ap, sym}
use Rattle.qm_current.specs.Lasting.{boundary_from}
use Rattle.qm_current.proofs.laws.a_batch_has_the_boundary_of_its_database.Goals as goal

pub returns : goal.returns
returns g c layout batch chain db list made stands =
    let from = boundary_from layout.hashing.shape layout.chunk in
    ap (λ f. from f batch.any.bounds.tip.size) (made.any.lowest ∙ sym stands.any.floor) ∙ ap (λ k. from db.any.floor k.size) (made.any.bounds.tip ∙ sym stands.any.commitment)
