use Rattle.qm_overlay.proofs.Puts.{IsBegun}
use Rattle.qm_overlay.proofs.apply.write_from.Given as goal

abbrev pub invariant-loop-i : goal.invariant-loop-i
invariant-loop-i g l = IsBegun g.N.Chunks.LEN l.fn.bits l.fn.first l.fn.chunk l.i l.bits
