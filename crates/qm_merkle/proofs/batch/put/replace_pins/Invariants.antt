use Rattle.std.proofs.Common.{◌≡◌, ◌<◌, ◌≤◌, ℕ, Some}
use Rattle.std.specs.Prelude.{slice_get}
use Rattle.std.specs.Option.{option_or}
use Rattle.qm_merkle.specs.Batches.{found_at}
use Rattle.qm_merkle.proofs.batch.put.replace_pins.Given as goal

abbrev pub invariant-loop-i : goal.invariant-loop-i
invariant-loop-i g l = record {
  done : (i p : ℕ) → i < l.i → slice_get l.positions i ≡ Some p → slice_get l.pins i ≡ option_or (found_at l.replaced.entries p) (slice_get l.initial.pins i);
  left : (i : ℕ) → l.i ≤ i → slice_get l.pins i ≡ slice_get l.initial.pins i;
}
