use Rattle.std.proofs.Common.{◌≡◌, ◌++◌, true, length, map, All}
use Rattle.std.specs.Vec.{vec_capacity}
use Rattle.qm_step.proofs.PlanEntries.{entry_shown, note_shown}
use Rattle.qm_step.proofs.diff.diff_of.Given as goal

abbrev pub invariant-loop-key : goal.invariant-loop-key
invariant-loop-key g l = record {
  value : map (entry_shown g.K.ByteString.bytes g.V.ByteString.bytes) l.entries.items ++ map (note_shown g.V.ByteString.bytes) l.key-iterator ≡ map (note_shown g.V.ByteString.bytes) l.notes.entries;
  room : vec_capacity l.entries ≡ length l.notes.entries;
  known : All (λ e. g.K.ByteString.has e.0.now ≡ true) l.key-iterator;
}
