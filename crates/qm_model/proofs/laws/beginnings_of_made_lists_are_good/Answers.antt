use Rattle.qm_model.proofs.Steps.{made-good}
use Rattle.qm_model.proofs.OrderedSteps.{made-ordered}
use Rattle.qm_model.proofs.Prefixes.{unordered-begins, ordered-begins}
use Rattle.qm_model.proofs.laws.beginnings_of_made_lists_are_good.Goals as goal

pub returns-clause-unordered : goal.returns-clause-unordered
returns-clause-unordered g c front ops made begins ended = made-good g.P.Ruled.rules front (unordered-begins g.P.Ruled.rules front ops made begins ended).0

pub returns-clause-ordered : goal.returns-clause-ordered
returns-clause-ordered g c front ops made begins ended = made-ordered g.P.Ruled.rules front (ordered-begins g.P.Ruled.rules front ops made begins ended).0
