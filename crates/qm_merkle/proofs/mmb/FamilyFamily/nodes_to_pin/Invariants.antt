use Rattle.std.proofs.Common.{◌≡◌, ◌≤◌, ◌<◌, ◌++◌, map}
use Rattle.qm_model.specs.Mmb.{log}
use Rattle.qm_model.specs.Mmb.{mmb}
use Rattle.qm_model.proofs.MmbPeaks.{peaks_below}
use Rattle.qm_merkle.proofs.mmb.FamilyFamily.nodes_to_pin.Given as goal

abbrev pub invariant-places : goal.invariant-places
invariant-places l = record {
  some : 0 < l.next;
  low : l.place ≤ log l.next;
  least : l.place ≤ 63;
  row : l.found.items ++ map mmb.position (peaks_below l.place l.next) ≡ map mmb.position (peaks_below (log l.next) l.next);
}

abbrev pub decreases-places : goal.decreases-places
decreases-places l = l.place
