use Rattle.std.proofs.Common.{◌≡◌, ◌≤◌, ◌++◌, map}
use Rattle.qm_model.specs.Trees as trees
use Rattle.qm_model.specs.Mmr.{mmr}
use Rattle.qm_model.proofs.MmrPeaks.{peaks_below}
use Rattle.qm_merkle.proofs.mmr.FamilyFamily.nodes_to_pin.Given as goal

abbrev pub invariant-places : goal.invariant-places
invariant-places l = record {
  low : l.height ≤ 63;
  row : l.found.items ++ map mmr.position (peaks_below l.height l.leaves) ≡ trees.peak_positions mmr l.leaves;
}

abbrev pub decreases-places : goal.decreases-places
decreases-places l = l.height
