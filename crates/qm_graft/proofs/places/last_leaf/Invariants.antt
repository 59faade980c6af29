use Rattle.std.proofs.Common.{◌-◌, ◌<◌, ◌≤◌}
use Rattle.qm_model.specs.Trees as trees
use Rattle.qm_graft.proofs.places.last_leaf.Given as goal

abbrev pub invariant-halving : goal.invariant-halving
invariant-halving g l = (l.low < l.high) × (l.high ≤ l.fn.leaves) × (trees.Shape.size g.F.Family.shape l.low ≤ l.fn.position) × (l.fn.position < trees.Shape.size g.F.Family.shape l.high)

abbrev pub decreases-halving : goal.decreases-halving
decreases-halving g l = l.high - l.low
