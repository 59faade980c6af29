use Rattle.qm_model.proofs.Openings.{unordered-parts, ordered-parts}
use Rattle.qm_model.proofs.Crashes.{with_chunks, unordered-counted, ordered-counted, unordered-counted_image, ordered-counted_image}
use Rattle.qm_model.proofs.laws.current_stores_stay_own.Goals as goal

pub returns-clause-unordered_openings : goal.returns-clause-unordered_openings
returns-clause-unordered_openings g v hash form shape digest_size c prompt = unordered-parts g.P.Ruled.rules hash (with_chunks form shape digest_size c) prompt

pub returns-clause-ordered_openings : goal.returns-clause-ordered_openings
returns-clause-ordered_openings g v hash form shape digest_size c prompt = ordered-parts g.P.Ruled.rules hash (with_chunks form shape digest_size c) prompt

pub returns-clause-unordered_rest : goal.returns-clause-unordered_rest
returns-clause-unordered_rest g v hash form shape digest_size c births log s image trees enough = unordered-counted_image g.P.Ruled.rules hash form shape digest_size c births trees enough log s image

pub returns-clause-ordered_rest : goal.returns-clause-ordered_rest
returns-clause-ordered_rest g v hash form shape digest_size c births log s image trees enough = ordered-counted_image g.P.Ruled.rules hash form shape digest_size c births trees enough log s image

pub returns-clause-unordered_inside : goal.returns-clause-unordered_inside
returns-clause-unordered_inside g v hash form shape digest_size c births trees enough = unordered-counted g.P.Ruled.rules hash form shape digest_size c births trees enough

pub returns-clause-ordered_inside : goal.returns-clause-ordered_inside
returns-clause-ordered_inside g v hash form shape digest_size c births trees enough = ordered-counted g.P.Ruled.rules hash form shape digest_size c births trees enough
