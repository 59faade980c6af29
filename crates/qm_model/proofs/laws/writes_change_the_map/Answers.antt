use Rattle.qm_model.proofs.Overwrites.{written}
use Rattle.qm_model.proofs.OrderedWrites.{ordered-written}
use Rattle.qm_model.proofs.laws.writes_change_the_map.Goals as goal

pub returns-clause-unordered : goal.returns-clause-unordered
returns-clause-unordered c ops ws key = written ops ws key

pub returns-clause-ordered : goal.returns-clause-ordered
returns-clause-ordered c ops ws key = ordered-written ops ws key
