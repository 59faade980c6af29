use Rattle.std.proofs.Common.{◌≡◌, Some, map, take}
use Rattle.std.specs.Prelude.{flat_map}
use Rattle.qm_model.specs.Trees.{peaks}
use Rattle.qm_model.specs.Proofs.{needed}
use Rattle.qm_proofs.proofs.list.list_peaks.Given as goal

abbrev pub invariant-peaks : goal.invariant-peaks
invariant-peaks g l = map Some l.digests.items ≡ map (g.N.Nodes.node_at l.nodes) (map g.F.Family.shape.position (flat_map (λ p. needed l.start l.end p.height p.index) (take l.number (peaks g.F.Family.shape l.leaves))))
