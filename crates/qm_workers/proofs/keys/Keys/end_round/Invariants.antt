use Rattle.std.specs.BTreeMap.{btree_map_len}
use Rattle.qm_workers.specs.Known.{knowledge, KnowsNoMore}
use Rattle.qm_workers.proofs.keys.Keys.end_round.Given as goal

abbrev pub invariant-loop-location : goal.invariant-loop-location
invariant-loop-location g l = KnowsNoMore (knowledge g.K.ByteString.bytes l.initial.self) (knowledge g.K.ByteString.bytes l.self)

abbrev pub decreases-loop-location : goal.decreases-loop-location
decreases-loop-location g l = btree_map_len l.self.hints
