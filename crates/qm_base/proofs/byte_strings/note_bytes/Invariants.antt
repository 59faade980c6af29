use Rattle.std.proofs.Common.{◌≡◌, take}
use Rattle.std.specs.Prelude.{true}
use Rattle.qm_model.specs.Operations.{are_bytes}
use Rattle.qm_base.proofs.byte_strings.note_bytes.Given as goal

abbrev pub invariant-loop-byte : goal.invariant-loop-byte
invariant-loop-byte l = are_bytes (take l.byte-index l.bytes) ≡ true
