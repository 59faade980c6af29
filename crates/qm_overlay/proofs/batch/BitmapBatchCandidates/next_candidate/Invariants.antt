use Rattle.std.proofs.Common.{◌≡◌, ℕ, ◌-◌, ◌<◌, ◌≤◌, false}
use Rattle.qm_bits.specs.Bitmaps.{all_bits}
use Rattle.qm_bits.specs.Candidates.{is_candidate}
use Rattle.qm_overlay.specs.Layers.{seen}
use Rattle.qm_overlay.proofs.batch.BitmapBatchCandidates.next_candidate.Given as goal

abbrev pub invariant-loop-at : goal.invariant-loop-at
invariant-loop-at g l = (l.from ≤ l.at) × (l.at ≤ l.tip) × ((i : ℕ) → l.from ≤ i → i < l.at → is_candidate (all_bits g.N.Chunks.LEN (seen g.N.Chunks.LEN l.self)) i ≡ false)

abbrev pub decreases-loop-at : goal.decreases-loop-at
decreases-loop-at g l = l.tip - l.at
