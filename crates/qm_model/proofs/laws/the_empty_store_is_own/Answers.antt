use Rattle.qm_model.proofs.Openings.{empty-own}
use Rattle.qm_model.proofs.laws.the_empty_store_is_own.Goals as goal

pub returns : goal.returns
returns g c e bare = empty-own e bare
