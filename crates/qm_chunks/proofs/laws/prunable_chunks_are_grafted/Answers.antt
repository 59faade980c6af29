use Rattle.qm_chunks.proofs.Waiting.{delayed_grafted, mountain_grafted}
use Rattle.qm_chunks.proofs.laws.prunable_chunks_are_grafted.Goals as goal

pub returns-clause-delayed : goal.returns-clause-delayed
returns-clause-delayed c h n i some = delayed_grafted h n i some

pub returns-clause-mountains : goal.returns-clause-mountains
returns-clause-mountains c = mountain_grafted
