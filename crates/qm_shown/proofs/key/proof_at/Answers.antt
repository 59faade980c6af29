use Rattle.qm_shown.proofs.key.proof_at.Goals as goal

pub returns-in-Ok-clause-loc : goal.returns-in-Ok-clause-loc
returns-in-Ok-clause-loc g c = c.in-Ok.ensures.loc

pub returns-in-Ok-clause-proof : goal.returns-in-Ok-clause-proof
returns-in-Ok-clause-proof g c = λ list stands own. c.in-Ok.ensures.proof g.U.Update.form list (c.parts.ensures.are list stands own)
