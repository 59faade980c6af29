use Rattle.std.proofs.Common.{map, take}
use Rattle.qm_step.specs.PlanViews.{linked_view}
use Rattle.qm_step.specs.Links.{keys_in, keys_of_kind, SameKeys}
use Rattle.qm_step.proofs.links.keys_of.Given as goal

abbrev pub invariant-loop-written : goal.invariant-loop-written
invariant-loop-written g l = SameKeys (keys_in l.keys.entries) (keys_of_kind l.kind (map (linked_view g.K.ByteString.bytes g.V.ByteString.bytes) (take l.written-index l.linked)))
