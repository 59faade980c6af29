use Rattle.qm_model.proofs.Decisions.{unordered-map}
use Rattle.qm_model.proofs.OrderedSteps.{ordered-map}
use Rattle.qm_model.proofs.laws.steps_change_the_map.Goals as goal

pub returns-clause-unordered : goal.returns-clause-unordered
returns-clause-unordered g c ops ws policy meta key = unordered-map g.P.Ruled.rules ops ws policy meta key

pub returns-clause-ordered : goal.returns-clause-ordered
returns-clause-ordered g c ops ws policy meta key = ordered-map g.P.Ruled.rules ops ws policy meta key
