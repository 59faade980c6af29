use Rattle.qm_model.proofs.Openings.{opens-alike}
use Rattle.qm_model.proofs.laws.own_stores_open_alike.Goals as goal

pub returns : goal.returns
returns g c e log s own = opens-alike e log s own
