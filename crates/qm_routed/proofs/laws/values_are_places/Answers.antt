use Rattle.qm_routed.proofs.Marked.{values-are-places}
use Rattle.qm_routed.proofs.laws.values_are_places.Goals as goal

pub returns : goal.returns
returns c = values-are-places
