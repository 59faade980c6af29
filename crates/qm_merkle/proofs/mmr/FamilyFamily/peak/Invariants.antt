use Rattle.std.proofs.Common.{◌≡◌, ◌≤◌, ◌<◌, length}
use Rattle.std.specs.Prelude.{slice_get}
use Rattle.qm_model.specs.Trees as trees
use Rattle.qm_model.specs.Mmr.{mmr}
use Rattle.qm_model.proofs.MmrPeaks.{peaks_below}
use Rattle.qm_merkle.proofs.mmr.FamilyFamily.peak.Given as goal

abbrev pub invariant-places : goal.invariant-places
invariant-places l = record {
  low : l.height ≤ 63;
  there : l.left < length (peaks_below l.height l.leaves);
  peak : slice_get (trees.peaks mmr l.leaves) l.number ≡ slice_get (peaks_below l.height l.leaves) l.left;
}

abbrev pub decreases-places : goal.decreases-places
decreases-places l = l.height
