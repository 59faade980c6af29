use Rattle.qm_model.proofs.Openings.{unordered-opened, ordered-opened}
use Rattle.qm_model.proofs.Crashes.{with_chunks, unordered-counted_between, ordered-counted_between}
use Rattle.qm_model.proofs.laws.current_stores_are_opened.Goals as goal

pub returns-clause-unordered : goal.returns-clause-unordered
returns-clause-unordered g v hash form shape digest_size c log rise = unordered-opened g.P.Ruled.rules hash (with_chunks form shape digest_size c) rise log

pub returns-clause-ordered : goal.returns-clause-ordered
returns-clause-ordered g v hash form shape digest_size c log rise = ordered-opened g.P.Ruled.rules hash (with_chunks form shape digest_size c) rise log

pub returns-clause-unordered_between : goal.returns-clause-unordered_between
returns-clause-unordered_between g v hash form shape digest_size c births before after s trees enough prompt rise = unordered-counted_between g.P.Ruled.rules hash form shape digest_size c births trees enough prompt rise before after s

pub returns-clause-ordered_between : goal.returns-clause-ordered_between
returns-clause-ordered_between g v hash form shape digest_size c births before after s trees enough prompt rise = ordered-counted_between g.P.Ruled.rules hash form shape digest_size c births trees enough prompt rise before after s
