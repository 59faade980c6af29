use Rattle.std.proofs.Common.{◌++◌, map, take}
use Rattle.std.specs.Prelude.{filter_map}
use Rattle.qm_model.specs.Keys.{without}
use Rattle.qm_step.specs.PlanViews.{linked_view}
use Rattle.qm_step.specs.Links.{after_of, keys_in, AreKeys, SameKeys}
use Rattle.qm_step.proofs.links.add_named.Given as goal

abbrev pub invariant-loop-written : goal.invariant-loop-written
invariant-loop-written g l = record {
  keys : SameKeys (keys_in l.keys.entries) (keys_in l.initial.keys.entries ++ without (keys_in l.deleted.entries) (filter_map after_of (map (linked_view g.K.ByteString.bytes g.V.ByteString.bytes) (take l.written-index l.linked))));
  known : AreKeys g.K.ByteString.has l.initial.keys.entries → AreKeys g.K.ByteString.has l.keys.entries;
}
