use Rattle.std.proofs.Common.{◌≡◌, take, filter, nat_le}
use Rattle.qm_roots.proofs.steps.changed_since.Given as goal

abbrev pub invariant-loop-at : goal.invariant-loop-at
invariant-loop-at g l = l.found.items ≡ filter (nat_le l.least) (take l.at-index l.at-items)
