use Rattle.std.proofs.Common.{◌≡◌, ℕ, ◌-◌, ◌<◌, ◌≤◌, false}
use Rattle.qm_bits.specs.Words.{is_set}
use Rattle.qm_bits.proofs.words.next_set.Given as goal

abbrev pub invariant-loop-at : goal.invariant-loop-at
invariant-loop-at l = (l.from ≤ l.at) × ((i : ℕ) → l.from ≤ i → i < l.at → is_set l.words i ≡ false)

abbrev pub decreases-loop-at : goal.decreases-loop-at
decreases-loop-at l = l.end - l.at
