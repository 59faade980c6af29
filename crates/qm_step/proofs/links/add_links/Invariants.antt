use Rattle.std.proofs.Common.{◌++◌, List, map, take}
use Rattle.std.specs.Prelude.{filter_map}
use Rattle.qm_model.specs.Keys.{predecessor}
use Rattle.qm_model.specs.Operations.{Bytes, Operation}
use Rattle.qm_step.specs.Links.{keys_in, keys_of_kind, AreLive, AreRelinked}
use Rattle.qm_step.specs.OrderedViews.{ordered_touches, ordered_update}
use Rattle.qm_step.specs.PlanViews.{linked_view}
use Rattle.qm_step.specs.Touches.{Touch}
use Rattle.qm_step.proofs.links.add_links.Given as goal

abbrev pub invariant-loop-changed : goal.invariant-loop-changed
invariant-loop-changed g l =
    let key = g.K.ByteString.bytes in
    let value = g.V.Value.ByteString.bytes in
    (base : List Operation) (front : List Touch) (before keys : List Bytes) → AreLive (ordered_update key value) base l.befores.entries →
    AreRelinked base (keys_in l.afters.entries) front before keys (ordered_touches key value l.initial.touches.items) (keys_in l.initial.written.entries) →
    AreRelinked base (keys_in l.afters.entries) front before (keys ++ filter_map (predecessor (keys_in l.befores.entries)) (keys_of_kind l.kind (map (linked_view key value) (take l.changed-index l.linked)))) (ordered_touches key value l.touches.items) (keys_in l.written.entries)
