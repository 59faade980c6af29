use Rattle.qm_model.proofs.Crashes.{unordered-between, ordered-between}
use Rattle.qm_model.proofs.laws.what_crashes_leave_is_opened.Goals as goal

pub returns-clause-unordered : goal.returns-clause-unordered
returns-clause-unordered g c hash form shape digest_size before after s plain is pinned = unordered-between g.P.Ruled.rules hash form shape digest_size before after s plain is pinned

pub returns-clause-ordered : goal.returns-clause-ordered
returns-clause-ordered g c hash form shape digest_size before after s is pinned = ordered-between g.P.Ruled.rules hash form shape digest_size before after s is pinned
