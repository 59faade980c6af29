use Rattle.qm_crew.proofs.calls.ByCallMarks.mark.Goals as goal

pub returns-clause-marked : goal.returns-clause-marked
returns-clause-marked g c = c.requires.ready.1 _ _ _ c.requires.crew c.call.ensures
