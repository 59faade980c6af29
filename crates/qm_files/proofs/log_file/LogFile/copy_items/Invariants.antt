use Rattle.std.proofs.Common.{◌-◌}
use Rattle.qm_files.proofs.log_file.LogFile.copy_items.Given as goal

abbrev pub decreases-loop-from : goal.decreases-loop-from
decreases-loop-from g l = l.end - l.from
