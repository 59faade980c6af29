use Rattle.qm_engine.proofs.Complete.{open-complete, settling-complete, prune-complete, destroy-complete}
use Rattle.qm_engine.proofs.laws.lasting_is_complete.Goals as goal

pub returns-clause-opening : goal.returns-clause-opening
returns-clause-opening g c = open-complete g.C.Store g.D.Meaning

pub returns-clause-commit : goal.returns-clause-commit
returns-clause-commit g c = settling-complete g.C.Store g.D.Meaning _ _

pub returns-clause-sync : goal.returns-clause-sync
returns-clause-sync g c = settling-complete g.C.Store g.D.Meaning _ _

pub returns-clause-prune : goal.returns-clause-prune
returns-clause-prune g c = prune-complete g.C.Store g.D.Meaning

pub returns-clause-destroy : goal.returns-clause-destroy
returns-clause-destroy g c = destroy-complete g.C.Store g.D.Meaning
