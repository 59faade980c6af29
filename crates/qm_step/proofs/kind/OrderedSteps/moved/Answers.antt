use Rattle.std.proofs.Common.{◌++◌, refl, subst, sym}
use Rattle.qm_model.specs.Ordered.{IsRing}
use Rattle.qm_model.proofs.OrderedWrites.{ordered-ring}
use Rattle.qm_model.proofs.Results.{ok-then}
use Rattle.qm_step.proofs.OrderedKinds.{counts-ordered}
use Rattle.qm_step.proofs.kind.OrderedSteps.moved.Goals as goal

pub returns-clause-value : goal.returns-clause-value
returns-clause-value g c =
    ok-then c.moved_behind.result c.moved_behind.ensures.value (λ touches is list ws long ring written are apart found.
    is list long (subst (λ ops. IsRing (list ++ ops)) (sym written.operations) (ordered-ring list ws (ring refl))) written.from are apart (found refl))

pub returns-clause-live : goal.returns-clause-live
returns-clause-live g c = counts-ordered
