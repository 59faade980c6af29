use Rattle.qm_routed.proofs.Projection.{rebuilt}
use Rattle.qm_routed.proofs.laws.parts_make_the_whole.Goals as goal

pub returns : goal.returns
returns c = rebuilt
