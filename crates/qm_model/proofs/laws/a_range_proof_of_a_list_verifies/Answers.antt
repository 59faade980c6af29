use Rattle.qm_model.proofs.RangeProving.{range_verified}
use Rattle.qm_model.proofs.laws.a_range_proof_of_a_list_verifies.Goals as goal

pub returns : goal.returns
returns c hash shape g form ops a b some within few = range_verified hash shape g form ops a b some within few
