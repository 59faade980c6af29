use Rattle.qm_model.proofs.OrderedWrites.{ordered-ring}
use Rattle.qm_model.proofs.OrderedSteps.{step-ring}
use Rattle.qm_model.proofs.laws.the_ring_is_kept.Goals as goal

pub returns-clause-writes : goal.returns-clause-writes
returns-clause-writes g c ops ws ring = ordered-ring ops ws ring

pub returns-clause-steps : goal.returns-clause-steps
returns-clause-steps g c ops ws policy meta ring = step-ring g.P.Ruled.rules ops ws policy meta ring
