use Rattle.std.proofs.Common.{◌∙◌, ap, sym}
use Rattle.qm_current.specs.Lasting.{boundary_from}
use Rattle.qm_current.proofs.laws.a_list_has_one_root.Goals as goal

pub returns-clause-root : goal.returns-clause-root
returns-clause-root g c layout a b list one other = one.canonical.root ∙ sym other.canonical.root

pub returns-clause-boundary : goal.returns-clause-boundary
returns-clause-boundary g c layout a b list one other =
    let from = boundary_from layout.hashing.shape layout.chunk in
    ap (λ f. from f a.any.commitment.size) (one.any.floor ∙ sym other.any.floor) ∙ ap (λ k. from b.any.floor k.size) (one.any.commitment ∙ sym other.any.commitment)
