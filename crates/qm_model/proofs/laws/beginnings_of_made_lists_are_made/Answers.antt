use Rattle.qm_model.proofs.Prefixes.{unordered-begins, ordered-begins}
use Rattle.qm_model.proofs.laws.beginnings_of_made_lists_are_made.Goals as goal

pub returns-clause-unordered : goal.returns-clause-unordered
returns-clause-unordered g c front ops made begins ended = unordered-begins g.P.Ruled.rules front ops made begins ended

pub returns-clause-ordered : goal.returns-clause-ordered
returns-clause-ordered g c front ops made begins ended = ordered-begins g.P.Ruled.rules front ops made begins ended
