use Rattle.qm_files.proofs.spelled.read_entries.Given as goal

abbrev pub decreases-loop-entries : goal.decreases-loop-entries
decreases-loop-entries g l = l.left
