use Rattle.std.proofs.Common.{◌≡◌, ◌≤◌, ◌<◌, ◌+◌}
use Rattle.qm_model.specs.Mmb.{log}
use Rattle.qm_merkle.proofs.MmbCalls.{counted}
use Rattle.qm_merkle.proofs.mmb.FamilyFamily.inactive_peaks.Given as goal

abbrev pub invariant-places : goal.invariant-places
invariant-places l = record {
  some : 0 < l.next;
  low : l.place ≤ log l.next;
  least : l.place ≤ 63;
  few : l.count + l.place ≤ 64;
  counted : l.count + counted l.floor l.place l.next ≡ counted l.floor (log l.next) l.next;
}

abbrev pub decreases-places : goal.decreases-places
decreases-places l = l.place
