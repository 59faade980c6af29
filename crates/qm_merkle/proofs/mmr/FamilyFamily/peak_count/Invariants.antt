use Rattle.std.proofs.Common.{◌≡◌, ◌≤◌, ◌+◌, length}
use Rattle.qm_model.specs.Trees as trees
use Rattle.qm_model.specs.Mmr.{mmr}
use Rattle.qm_model.proofs.MmrPeaks.{peaks_below}
use Rattle.qm_merkle.proofs.mmr.FamilyFamily.peak_count.Given as goal

abbrev pub invariant-places : goal.invariant-places
invariant-places l = record {
  low : l.count + l.height ≤ 63;
  counted : l.count + length (peaks_below l.height l.leaves) ≡ length (trees.peaks mmr l.leaves);
}

abbrev pub decreases-places : goal.decreases-places
decreases-places l = l.height
