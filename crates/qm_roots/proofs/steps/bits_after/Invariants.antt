use Rattle.std.proofs.Common.{◌≡◌, ◌≤◌, map, drop, length}
use Rattle.qm_overlay.specs.Layers.{seen}
use Rattle.qm_roots.specs.Steps.{laid_over}
use Rattle.qm_roots.proofs.steps.bits_after.Given as goal

abbrev pub invariant-loop-left : goal.invariant-loop-left
invariant-loop-left g l =
    (l.left ≤ length (map (λ r. r.value) l.overlays)) × (seen g.N.Chunks.LEN l.batch ≡ laid_over g.N.Chunks.LEN (drop l.left (map (λ r. r.value) l.overlays)) l.bits)

abbrev pub decreases-loop-left : goal.decreases-loop-left
decreases-loop-left g l = l.left
