use Rattle.std.proofs.Common.{◌≡◌, ◌++◌, take, drop, map}
use Rattle.qm_any.specs.Databases.{unapplied}
use Rattle.qm_any.proofs.operations.unapplied_of.Given as goal

-- the steps before this one are not applied
abbrev pub invariant-loop-at : goal.invariant-loop-at
invariant-loop-at g l =
    unapplied l.size (map (λ s. s.value) l.steps) ≡ map (λ s. s.value) (take l.at l.steps) ++ unapplied l.size (map (λ s. s.value) (drop l.at l.steps))
