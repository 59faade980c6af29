use Rattle.std.proofs.Common.{◌≡◌, ◌++◌, List, map}
use Rattle.std.specs.Iterator.Adapters.{zip_first, zip_second}
use Rattle.std.specs.Slice.Iter.{iter_rest}
use Rattle.qm_model.specs.Writes as model
use Rattle.qm_step.specs.PlanViews.{keyed, last_view}
use Rattle.qm_step.proofs.PlanWanted.{slot_writes}
use Rattle.qm_step.proofs.writes.add_slots.Given as goal

abbrev pub invariant-loop-read : goal.invariant-loop-read
invariant-loop-read g l =
    let key = g.U.Key.ByteString.bytes in
    let value = g.U.Value.ByteString.bytes in
    (ws : List model.Write) → map (last_view key value) l.initial.last.entries ≡ map keyed (model.last_writes ws) →
    (us : List model.Write) × (map (last_view key value) l.last.entries ≡ map keyed (model.last_writes us))
    × (us ++ slot_writes key value (iter_rest (zip_first l.read-iterator)) (iter_rest (zip_second l.read-iterator)) ≡ ws ++ slot_writes key value l.reads l.slots)
