use Rattle.qm_fill.proofs.Parts.{rounds-more}
use Rattle.qm_fill.proofs.laws.rounds_follow_one_another.Goals as goal

pub returns : goal.returns
returns c = rounds-more
