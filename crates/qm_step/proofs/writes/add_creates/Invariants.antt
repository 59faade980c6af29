use Rattle.std.proofs.Common.{◌≡◌, ◌++◌, List, map, take}
use Rattle.std.specs.Prelude.{filter_map}
use Rattle.qm_model.specs.Live.{live}
use Rattle.qm_model.specs.Operations as operations
use Rattle.qm_model.specs.Writes as model
use Rattle.qm_step.specs.PlanViews.{site_in, site_view, unordered_touches}
use Rattle.qm_step.specs.Touches.{new_touch}
use Rattle.qm_step.proofs.writes.add_creates.Given as goal

abbrev pub invariant-loop-site : goal.invariant-loop-site
invariant-loop-site g l =
    let key = g.K.ByteString.bytes in
    let value = g.V.Value.ByteString.bytes in
    (base : List operations.Operation) (us : List model.Write) → map (site_view key value) l.sites ≡ map (site_in base) us →
    unordered_touches key value l.touches.items ≡ unordered_touches key value l.initial.touches.items ++ map new_touch (filter_map (model.create_of (live base)) (take l.site-index us))
