use Rattle.std.proofs.Common.{◌≡◌, ℕ, ◌-◌, ◌≤◌}
use Rattle.qm_model.specs.Mmb.{size}
use Rattle.qm_merkle.proofs.mmb.location_at.Given as goal

abbrev pub invariant-leaves : goal.invariant-leaves
invariant-leaves l = (leaf : ℕ) → size leaf ≡ l.position → l.location ≤ leaf

abbrev pub decreases-leaves : goal.decreases-leaves
decreases-leaves l = l.position - l.location
