use Rattle.qm_engine.proofs.Complete.{make-complete}
use Rattle.qm_engine.proofs.laws.making_is_complete.Goals as goal

pub returns : goal.returns
returns g c = make-complete g.C.Store g.D.Meaning
