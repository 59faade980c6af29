use Rattle.std.proofs.Common.{◌-◌}
use Rattle.qm_files.proofs.sums.read_told.Given as goal

abbrev pub decreases-loop-at : goal.decreases-loop-at
decreases-loop-at g l = l.size - l.at
