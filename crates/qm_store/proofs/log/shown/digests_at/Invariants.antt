use Rattle.std.proofs.Common.{◌≡◌, Some, length, map, take}
use Rattle.std.specs.Vec.{vec_capacity}
use Rattle.qm_store.proofs.log.shown.digests_at.Given as goal

-- the digests at the positions so far, and room for the others
abbrev pub invariant-loop-position : goal.invariant-loop-position
invariant-loop-position g l = record {
  digests : map Some l.digests.items ≡ map (g.N.Nodes.node_at l.nodes) (take l.position-index l.positions);
  count : length l.digests.items ≡ l.position-index;
  room : vec_capacity l.digests ≡ length l.positions;
}
