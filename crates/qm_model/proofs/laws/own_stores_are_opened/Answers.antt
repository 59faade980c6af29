use Rattle.qm_model.proofs.Openings.{unordered-whole, ordered-whole}
use Rattle.qm_model.proofs.laws.own_stores_are_opened.Goals as goal

pub returns-clause-unordered : goal.returns-clause-unordered
returns-clause-unordered g c hash form shape digest_size log plain kept pinned = unordered-whole g.P.Ruled.rules hash form shape digest_size log plain kept pinned

pub returns-clause-ordered : goal.returns-clause-ordered
returns-clause-ordered g c hash form shape digest_size log kept pinned = ordered-whole g.P.Ruled.rules hash form shape digest_size log kept pinned
