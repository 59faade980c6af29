use Rattle.std.proofs.Common.{◌≡◌, ◌≤◌, ◌+◌}
use Rattle.std.specs.Prelude.{count_by, nat_le}
use Rattle.qm_model.specs.Trees as trees
use Rattle.qm_model.specs.Mmr.{mmr}
use Rattle.qm_model.proofs.MmrPeaks.{peaks_below}
use Rattle.qm_merkle.proofs.mmr.FamilyFamily.inactive_peaks.Given as goal

abbrev pub invariant-places : goal.invariant-places
invariant-places l = record {
  low : l.count + l.height ≤ 63;
  counted : l.count + count_by (λ p. nat_le (trees.end_of p) l.floor) (peaks_below l.height l.leaves) ≡ trees.inactive_peaks mmr l.leaves l.floor;
}

abbrev pub decreases-places : goal.decreases-places
decreases-places l = l.height
