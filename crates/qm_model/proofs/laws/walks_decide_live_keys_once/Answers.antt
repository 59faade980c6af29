use Rattle.qm_model.proofs.Decisions.{decided-once, decided-live}
use Rattle.qm_model.proofs.laws.walks_decide_live_keys_once.Goals as goal

pub returns-clause-once : goal.returns-clause-once
returns-clause-once g c ops f limits policy = decided-once g.P.Ruled.rules ops f limits policy

pub returns-clause-live : goal.returns-clause-live
returns-clause-live g c ops f limits policy = decided-live g.P.Ruled.rules ops f limits policy
