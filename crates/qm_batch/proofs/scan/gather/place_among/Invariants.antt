use Rattle.std.proofs.Common.{◌≡◌, ◌+◌, map, drop}
use Rattle.qm_base.specs.Views.{pair_view}
use Rattle.qm_batch.specs.Gathered.{place_among}
use Rattle.qm_batch.proofs.scan.gather.place_among.Given as goal

abbrev pub invariant-loop-pair : goal.invariant-loop-pair
invariant-loop-pair g l = record {
  count : l.place ≡ l.pair-index;
  value : place_among l.key (map (pair_view g.K.ByteString.bytes g.V.ByteString.bytes) l.pairs) ≡ l.pair-index + place_among l.key (map (pair_view g.K.ByteString.bytes g.V.ByteString.bytes) (drop l.pair-index l.pairs));
}
