use Rattle.qm_current.proofs.db.joined.Goals as goal

pub returns-in-Ok-clause-canonical : goal.returns-in-Ok-clause-canonical
returns-in-Ok-clause-canonical g c = λ list tip bases is found at. c.in-Ok.ensures.stands g.H.Hasher.hash g.U.Update.form list tip bases is found at
