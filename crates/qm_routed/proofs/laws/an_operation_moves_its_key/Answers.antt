use Rattle.qm_routed.proofs.Projection.{places-push}
use Rattle.qm_routed.proofs.laws.an_operation_moves_its_key.Goals as goal

pub returns : goal.returns
returns c = places-push
