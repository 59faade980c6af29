use Rattle.qm_model.proofs.Openings.{unordered-takes, ordered-takes}
use Rattle.qm_model.proofs.laws.openings_take_up_beginnings.Goals as goal

pub returns-clause-unordered : goal.returns-clause-unordered
returns-clause-unordered g c hash form shape digest_size = unordered-takes g.P.Ruled.rules hash form shape digest_size

pub returns-clause-ordered : goal.returns-clause-ordered
returns-clause-ordered g c hash form shape digest_size = ordered-takes g.P.Ruled.rules hash form shape digest_size
