use Rattle.qm_engine.proofs.Complete.{prove-complete, pins-complete, proof-complete}
use Rattle.qm_engine.proofs.laws.proving_is_complete.Goals as goal

pub returns-clause-prove : goal.returns-clause-prove
returns-clause-prove g c = prove-complete g.C.Store g.D.Meaning

pub returns-clause-pins : goal.returns-clause-pins
returns-clause-pins g c db = pins-complete g.D.Meaning db (g.C.Store.start (g.D.Meaning.inside db))

pub returns-clause-proof : goal.returns-clause-proof
returns-clause-proof g c db = proof-complete g.D.Meaning (g.C.Store.start (g.D.Meaning.inside db))
