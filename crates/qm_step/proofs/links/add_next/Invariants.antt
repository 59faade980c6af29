use Rattle.std.proofs.Common.{◌++◌, map, take}
use Rattle.std.specs.Prelude.{filter_map}
use Rattle.qm_model.specs.Keys.{without}
use Rattle.qm_step.specs.Links.{next_of, keys_in, ordered_neighbour, AreKeys, SameKeys}
use Rattle.qm_step.proofs.links.add_next.Given as goal

abbrev pub invariant-loop-neighbour : goal.invariant-loop-neighbour
invariant-loop-neighbour g l =
    record {
      keys : SameKeys (keys_in l.keys.entries) (keys_in l.initial.keys.entries ++ without (keys_in l.deleted.entries) (filter_map next_of (map (ordered_neighbour g.K.ByteString.bytes g.V.Value.ByteString.bytes) (take l.neighbour-index l.neighbours))));
      known : AreKeys g.K.ByteString.has l.initial.keys.entries → AreKeys g.K.ByteString.has l.keys.entries;
    }
