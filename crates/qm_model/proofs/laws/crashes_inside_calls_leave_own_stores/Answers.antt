use Rattle.qm_model.proofs.Crashes.{unordered-crashes, ordered-crashes}
use Rattle.qm_model.proofs.laws.crashes_inside_calls_leave_own_stores.Goals as goal

pub returns-clause-unordered : goal.returns-clause-unordered
returns-clause-unordered g c hash form shape digest_size = unordered-crashes g.P.Ruled.rules hash form shape digest_size

pub returns-clause-ordered : goal.returns-clause-ordered
returns-clause-ordered g c hash form shape digest_size = ordered-crashes g.P.Ruled.rules hash form shape digest_size
