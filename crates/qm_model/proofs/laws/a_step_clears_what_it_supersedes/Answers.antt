use Rattle.qm_model.proofs.BitLemmas.{step_clears, step_clears_commit}
use Rattle.qm_model.proofs.laws.a_step_clears_what_it_supersedes.Goals as goal

pub returns-clause-update : goal.returns-clause-update
returns-clause-update g c kind ops ws policy meta i key value next at again = step_clears kind g.P.Ruled.rules ops ws policy meta i key value next at again

pub returns-clause-commit : goal.returns-clause-commit
returns-clause-commit g c kind ops ws policy meta ended = step_clears_commit kind g.P.Ruled.rules ops ws policy meta ended
