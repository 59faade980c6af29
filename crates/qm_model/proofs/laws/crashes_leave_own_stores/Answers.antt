use Rattle.qm_model.proofs.Openings.{unordered-image, ordered-image}
use Rattle.qm_model.proofs.laws.crashes_leave_own_stores.Goals as goal

pub returns-clause-unordered : goal.returns-clause-unordered
returns-clause-unordered g c hash form shape digest_size log s image own i = unordered-image g.P.Ruled.rules hash form shape digest_size log s image own i

pub returns-clause-ordered : goal.returns-clause-ordered
returns-clause-ordered g c hash form shape digest_size log s image own i = ordered-image g.P.Ruled.rules hash form shape digest_size log s image own i
