use Rattle.std.proofs.Common.{◌≡◌, map, ◌++◌}
use Rattle.qm_overlay.proofs.overlay.ChunkOverlay.chunks.Given as goal

abbrev pub invariant-loop-at : goal.invariant-loop-at
invariant-loop-at g l = l.found.items ++ map (λ e. e.0) l.at-iterator ≡ map (λ e. e.0) l.self.changed
