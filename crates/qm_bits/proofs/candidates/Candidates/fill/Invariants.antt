use Rattle.std.proofs.Common.{◌-◌}
use Rattle.qm_bits.specs.Candidates.{IsFilled}
use Rattle.qm_bits.proofs.candidates.Candidates.fill.Given as goal

abbrev pub invariant-loop-at : goal.invariant-loop-at
invariant-loop-at g l = IsFilled (g.Self.Candidates.activity l.self) l.fn.floor l.fn.tip l.limit l.fn.out.items l.out.items l.at

abbrev pub decreases-loop-at : goal.decreases-loop-at
decreases-loop-at g l = l.tip - l.at
