use Rattle.std.proofs.Common.{◌≡◌}
use Rattle.qm_chain.proofs.Reaching.{IsPast}
use Rattle.qm_chain.proofs.walk.Walk.reachable.Given as goal

abbrev pub invariant-loop-at : goal.invariant-loop-at
invariant-loop-at g l = (l.count ≡ l.at-index) × IsPast l.self.floor l.self.entries l.self.skips l.candidates l.floor l.skips l.count
