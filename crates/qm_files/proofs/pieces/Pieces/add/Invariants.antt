use Rattle.std.proofs.Common.{◌-◌}
use Rattle.qm_files.proofs.pieces.Pieces.add.Given as goal

abbrev pub decreases-loop-at : goal.decreases-loop-at
decreases-loop-at g l = l.to - l.at
