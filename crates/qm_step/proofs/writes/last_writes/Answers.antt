use Rattle.std.proofs.Common.{◌++◌, [], ap, map}
use Rattle.qm_step.specs.PlanViews.{last_view}
use Rattle.qm_step.specs.Views.{write_view}
use Rattle.qm_step.proofs.PlanWanted.{slot_writes}
use Rattle.qm_step.proofs.writes.last_writes.Goals as goal

pub returns : goal.returns
returns g c =
    let key = g.U.Key.ByteString.bytes in
    let value = g.U.Value.ByteString.bytes in
    let writes = map (write_view key value) c.args.wanted.now.writes.now in
    c.in_ok-add_writes-2.ensures (writes ++ slot_writes key value c.args.wanted.now.reads.now c.args.wanted.now.slots.now)
    (c.in_ok-add_slots.ensures writes (c.in_ok-add_writes.ensures [] (ap (map (last_view key value)) c.new-last.ensures.empty)))
