use Rattle.qm_crew.proofs.calls.ByCallRuns.run.Goals as goal

pub returns-clause-turned : goal.returns-clause-turned
returns-clause-turned g c = c.requires.1 _ _ c.call.ensures
