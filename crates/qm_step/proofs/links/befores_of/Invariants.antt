use Rattle.std.proofs.Common.{List, map, take}
use Rattle.std.specs.Prelude.{filter_map, All}
use Rattle.qm_model.specs.Keys.{without}
use Rattle.qm_model.specs.Operations.{Operation}
use Rattle.qm_step.specs.Links.{before_of, keys_in, ordered_neighbour, AreLive, IsStanding, SameKeys}
use Rattle.qm_step.specs.OrderedViews.{ordered_update}
use Rattle.qm_step.proofs.links.befores_of.Given as goal

abbrev pub invariant-loop-neighbour : goal.invariant-loop-neighbour
invariant-loop-neighbour g l =
    let key = g.K.ByteString.bytes in
    let value = g.V.Value.ByteString.bytes in
    record {
      keys : SameKeys (keys_in l.befores.entries) (without (keys_in l.deleted.entries) (filter_map before_of (map (ordered_neighbour key value) (take l.neighbour-index l.neighbours))));
      standing : (base : List Operation) → All (IsStanding base) (map (ordered_neighbour key value) l.neighbours) → AreLive (ordered_update key value) base l.befores.entries;
    }
