use Rattle.std.proofs.Common.{◌≡◌, ◌<◌, ℕ, false, get_or}
use Rattle.qm_workers.specs.Working.{work_of}
use Rattle.qm_workers.proofs.round.has_failed.Given as goal

abbrev pub invariant-loop-i : goal.invariant-loop-i
invariant-loop-i g l = (j : ℕ) (d : _) → j < l.i → (work_of g.I.Unordered.entries g.K.ByteString.bytes (get_or l.crew j d)).failed ≡ false
