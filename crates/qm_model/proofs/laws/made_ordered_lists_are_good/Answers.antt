use Rattle.qm_model.proofs.OrderedSteps.{made-ordered}
use Rattle.qm_model.proofs.laws.made_ordered_lists_are_good.Goals as goal

pub returns : goal.returns
returns g c ops made = made-ordered g.P.Ruled.rules ops made
