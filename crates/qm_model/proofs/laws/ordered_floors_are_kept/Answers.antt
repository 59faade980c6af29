use Rattle.qm_model.proofs.OrderedSteps.{ordered-within, ordered-below, ordered-empty}
use Rattle.qm_model.proofs.laws.ordered_floors_are_kept.Goals as goal

pub returns-clause-inside : goal.returns-clause-inside
returns-clause-inside g c ops ws policy meta low = (ordered-within g.P.Ruled.rules ops ws policy meta low).0

pub returns-clause-rise : goal.returns-clause-rise
returns-clause-rise g c ops ws policy meta low = (ordered-within g.P.Ruled.rules ops ws policy meta low).1

pub returns-clause-below : goal.returns-clause-below
returns-clause-below g c ops ws policy meta good = ordered-below g.P.Ruled.rules ops ws policy meta good

pub returns-clause-empty : goal.returns-clause-empty
returns-clause-empty g c ops ws policy meta good = ordered-empty g.P.Ruled.rules ops ws policy meta good
