use Rattle.std.proofs.Common.{◌≡◌, length, map, take}
use Rattle.std.specs.Vec.{vec_capacity}
use Rattle.qm_store.specs.Log.{digests_from}
use Rattle.qm_store.proofs.log.item_digests.Given as goal

-- the digests of the items so far, and room for those of the others
abbrev pub invariant-loop-index : goal.invariant-loop-index
invariant-loop-index g l = record {
  digests : map g.H.Digest.Digest.bytes l.made.items ≡ digests_from g.H.Hasher.hash g.F.Family.shape l.from (map (λ v. v.items) (take l.index l.items));
  count : length l.made.items ≡ l.index;
  room : vec_capacity l.made ≡ length l.items;
}
