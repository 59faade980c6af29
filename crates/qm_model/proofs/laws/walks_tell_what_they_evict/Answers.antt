use Rattle.qm_model.proofs.Evictions.{evicted-keys, evicted-values}
use Rattle.qm_model.proofs.laws.walks_tell_what_they_evict.Goals as goal

pub returns-clause-keys : goal.returns-clause-keys
returns-clause-keys g c ops f limits policy = evicted-keys g.P.Ruled.rules ops f limits policy

pub returns-clause-values : goal.returns-clause-values
returns-clause-values g c ops f limits policy = evicted-values g.P.Ruled.rules ops f limits policy
