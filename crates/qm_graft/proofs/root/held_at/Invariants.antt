use Rattle.std.proofs.Common.{◌≡◌, map, take, Some}
use Rattle.qm_graft.proofs.root.held_at.Given as goal

abbrev pub invariant-loop-position : goal.invariant-loop-position
invariant-loop-position g l = map Some l.found.items ≡ map (g.V.Nodes.node_at l.view) (take l.position-index l.positions)
