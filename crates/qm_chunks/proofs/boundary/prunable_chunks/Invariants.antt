use Rattle.std.proofs.Common.{◌≡◌, ◌≤◌}
use Rattle.qm_model.specs.Grafted.{prunable_chunks}
use Rattle.qm_chunks.proofs.boundary.prunable_chunks.Given as goal

abbrev pub invariant-chunks : goal.invariant-chunks
invariant-chunks g l = record {
  most : l.left ≤ l.chunks;
  same : prunable_chunks g.F.Family.shape l.height l.size l.left ≡ prunable_chunks g.F.Family.shape l.height l.size l.chunks;
}

abbrev pub decreases-chunks : goal.decreases-chunks
decreases-chunks g l = l.left
