use Rattle.std.proofs.Common.{◌≡◌, List, map, take}
use Rattle.std.specs.Prelude.{filter_map}
use Rattle.qm_step.specs.PlanViews.{unordered_view}
use Rattle.qm_model.specs.Live.{live}
use Rattle.qm_model.specs.Operations as operations
use Rattle.qm_model.specs.Writes as model
use Rattle.qm_step.specs.PlanViews.{site_in, site_view}
use Rattle.qm_step.specs.Touches.{rewrite_here}
use Rattle.qm_step.proofs.writes.by_location.Given as goal

abbrev pub invariant-loop-site : goal.invariant-loop-site
invariant-loop-site g l =
    let key = g.K.ByteString.bytes in
    let value = g.V.Value.ByteString.bytes in
    (base : List operations.Operation) (ws : List model.Write) → map (site_view key value) l.sites ≡ map (site_in base) (model.last_writes ws) →
    map (λ e. (e.0, unordered_view key value e.1)) l.rewrites.entries ≡ filter_map (rewrite_here (take l.site-index (model.last_writes ws))) (live base)
