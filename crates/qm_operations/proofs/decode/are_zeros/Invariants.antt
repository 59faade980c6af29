use Rattle.std.proofs.Common.{◌≡◌, drop}
use Rattle.qm_model.specs.Forms as model
use Rattle.qm_operations.proofs.decode.are_zeros.Given as goal

abbrev pub invariant-loop-byte : goal.invariant-loop-byte
invariant-loop-byte l = model.are_zeros (drop l.byte-index l.bytes) ≡ model.are_zeros l.bytes
