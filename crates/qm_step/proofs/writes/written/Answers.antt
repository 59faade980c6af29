use Rattle.std.proofs.Common.{◌∙◌, ◌++◌, ap, sym, map}
use Rattle.std.specs.Prelude.{filter_map}
use Rattle.qm_step.specs.PlanViews.{unordered_view}
use Rattle.qm_model.specs.Live.{live}
use Rattle.qm_model.specs.Writes.{last_writes, create_of}
use Rattle.qm_step.specs.Touches.{moved_touch, new_touch}
use Rattle.qm_step.proofs.Steps.{map-twice}
use Rattle.qm_step.proofs.writes.written.Goals as goal

pub returns : goal.returns
returns g c = λ base ws are.
    let view = unordered_view g.K.ByteString.bytes g.V.Value.ByteString.bytes in
    c.in_ok-add_creates.ensures base (last_writes ws) are
    ∙ ap (λ ts. ts ++ map new_touch (filter_map (create_of (live base)) (last_writes ws)))
    (c.in_ok-touches.ensures ∙ sym (map-twice moved_touch (λ e. (e.0, view e.1)) c.in_ok-rewrites.rewrites.entries) ∙ ap (map moved_touch) (c.in_ok-rewrites.ensures base ws are))
