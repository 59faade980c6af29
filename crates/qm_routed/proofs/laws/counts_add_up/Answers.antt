use Rattle.qm_routed.proofs.Projection.{counted}
use Rattle.qm_routed.proofs.laws.counts_add_up.Goals as goal

pub returns : goal.returns
returns c = counted
