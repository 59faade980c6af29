use Rattle.std.proofs.Common.{length}
use Rattle.std.specs.List.{FoldsTo}
use Rattle.std.specs.Fn.{CalledAt}
use Rattle.qm_index.proofs.unordered.show.Given as goal

-- the calls to come lead to where all calls lead
abbrev pub invariant-loop-value : goal.invariant-loop-value
invariant-loop-value g l =
    goal.F-IsAlwaysCallable g l.visit
    × ((last : _) → FoldsTo (λ p x q. CalledAt g.F.FnMut p x tt q) l.visit l.rest last → FoldsTo (λ p x q. CalledAt g.F.FnMut p x tt q) l.fn.visit l.fn.values last)

abbrev pub decreases-loop-value : goal.decreases-loop-value
decreases-loop-value g l = length l.rest
