use Rattle.std.proofs.Common.{refl}
use Rattle.qm_model.proofs.Results.{ok-then}
use Rattle.qm_step.specs.OrderedViews.{ordered_touches}
use Rattle.qm_step.proofs.OrderedKinds.{written-ordered}
use Rattle.qm_step.proofs.kind.OrderedSteps.written.Goals as goal

pub returns : goal.returns
returns g c =
    ok-then c.linked_touches.result c.linked_touches.ensures (λ touches is base ws ring sites beside.
    written-ordered base ws (ordered_touches g.K.ByteString.bytes g.V.Value.ByteString.bytes touches.items) (is base ws (ring refl) sites (beside refl)))
