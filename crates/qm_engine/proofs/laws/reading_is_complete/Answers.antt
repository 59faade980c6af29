use Rattle.qm_engine.proofs.Complete.{read-complete, through-complete}
use Rattle.qm_engine.proofs.laws.reading_is_complete.Goals as goal

pub returns-clause-plain : goal.returns-clause-plain
returns-clause-plain g c = read-complete g.C.Store g.D.Meaning

pub returns-clause-through : goal.returns-clause-through
returns-clause-through g c = through-complete g.C.Store g.D.Meaning
