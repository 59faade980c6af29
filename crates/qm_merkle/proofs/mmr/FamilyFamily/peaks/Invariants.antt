use Rattle.std.proofs.Common.{◌≡◌, ◌≤◌, ◌++◌}
use Rattle.qm_model.specs.Trees as trees
use Rattle.qm_model.specs.Mmr.{mmr}
use Rattle.qm_model.proofs.MmrPeaks.{peaks_below}
use Rattle.qm_merkle.proofs.mmr.FamilyFamily.peaks.Given as goal

abbrev pub invariant-places : goal.invariant-places
invariant-places l = record {
  low : l.height ≤ 63;
  row : l.found.items ++ peaks_below l.height l.count ≡ trees.peaks mmr l.count;
}

abbrev pub decreases-places : goal.decreases-places
decreases-places l = l.height
