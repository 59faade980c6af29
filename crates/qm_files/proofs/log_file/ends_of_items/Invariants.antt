use Rattle.std.proofs.Common.{◌-◌}
use Rattle.qm_files.proofs.log_file.ends_of_items.Given as goal

abbrev pub decreases-loop-ends : goal.decreases-loop-ends
decreases-loop-ends g l = l.size - l.place
