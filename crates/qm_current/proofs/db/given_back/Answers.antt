use Rattle.qm_current.proofs.db.given_back.Goals as goal

pub invariant_of-result : goal.invariant_of-result
invariant_of-result g c = c.requires c.in-Database.any c.in-Database.is
