use Rattle.qm_overlay.proofs.Puts.{AreWritten}
use Rattle.qm_overlay.proofs.overlay.ChunkOverlay.write_into.Given as goal

abbrev pub invariant-loop-at : goal.invariant-loop-at
invariant-loop-at g l = AreWritten g.N.Chunks.LEN l.self.changed l.fn.bits l.at-iterator l.bits
