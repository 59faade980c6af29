use Rattle.qm_model.proofs.Results.{ok-then}
use Rattle.qm_model.specs.Writes.{last_writes}
use Rattle.qm_step.specs.PlanViews.{unordered_touches}
use Rattle.qm_step.proofs.PlanPlaces.{written-unordered}
use Rattle.qm_step.proofs.PlanSites.{sites-placed}
use Rattle.qm_step.proofs.kind.UnorderedSteps.written.Goals as goal

pub returns : goal.returns
returns g c =
    let key = g.K.ByteString.bytes in
    let value = g.V.Value.ByteString.bytes in
    ok-then c.written.result c.written.ensures (λ touches is base ws ring sites beside.
    written-unordered base ws (unordered_touches key value touches.items) (is base ws (sites-placed key value base c.args.sites.now (last_writes ws) sites)))
