use Rattle.std.proofs.Common.{◌≡◌, drop}
use Rattle.qm_merkle.specs.Mems.{pin_at}
use Rattle.qm_merkle.proofs.mem.pin.Given as goal

abbrev pub invariant-loop-i : goal.invariant-loop-i
invariant-loop-i g l = pin_at (drop l.i l.positions) (drop l.i l.digests) l.position ≡ pin_at l.positions l.digests l.position
