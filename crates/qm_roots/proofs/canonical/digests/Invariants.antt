use Rattle.std.proofs.Common.{◌≡◌, map, take, Some}
use Rattle.qm_merkle.specs.Mems.{node_at}
use Rattle.qm_roots.proofs.canonical.digests.Given as goal

abbrev pub invariant-loop-position : goal.invariant-loop-position
invariant-loop-position g l = map Some l.found.items ≡ map (node_at g.F.Family.shape l.tree) (take l.position-index l.positions)
