use Rattle.qm_engine.proofs.Complete.{apply-complete}
use Rattle.qm_engine.proofs.laws.applying_is_complete.Goals as goal

pub returns : goal.returns
returns g c = apply-complete g.C.Store g.D.Meaning
