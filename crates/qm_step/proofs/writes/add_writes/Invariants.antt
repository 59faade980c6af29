use Rattle.std.proofs.Common.{◌≡◌, ◌++◌, List, map, take}
use Rattle.qm_model.specs.Writes as model
use Rattle.qm_step.specs.PlanViews.{keyed, last_view}
use Rattle.qm_step.specs.Views.{write_view}
use Rattle.qm_step.proofs.writes.add_writes.Given as goal

abbrev pub invariant-loop-write : goal.invariant-loop-write
invariant-loop-write g l =
    let key = g.K.ByteString.bytes in
    let value = g.V.ByteString.bytes in
    (ws : List model.Write) → map (last_view key value) l.initial.last.entries ≡ map keyed (model.last_writes ws) →
    map (last_view key value) l.last.entries ≡ map keyed (model.last_writes (ws ++ map (write_view key value) (take l.write-index l.writes)))
