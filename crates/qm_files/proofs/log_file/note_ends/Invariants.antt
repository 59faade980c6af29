use Rattle.std.proofs.Common.{◌≡◌, ◌+◌, length}
use Rattle.qm_files.proofs.log_file.note_ends.Given as goal

abbrev pub invariant-loop-item : goal.invariant-loop-item
invariant-loop-item l = length l.ends.items ≡ length l.initial.ends.items + l.item-index
