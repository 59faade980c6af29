use Rattle.qm_model.proofs.OrderedSteps.{ordered-keeps, ordered-holds}
use Rattle.qm_model.proofs.laws.keeping_policies_keep_the_ordered_map.Goals as goal

pub returns-clause-keeps : goal.returns-clause-keeps
returns-clause-keeps g c ops ws policy meta key only = ordered-keeps g.P.Ruled.rules ops ws policy meta key only

pub returns-clause-holds : goal.returns-clause-holds
returns-clause-holds g c ops ws policy meta key never = ordered-holds g.P.Ruled.rules ops ws policy meta key never
