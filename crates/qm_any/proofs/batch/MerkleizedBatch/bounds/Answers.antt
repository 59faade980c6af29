use Rattle.std.proofs.Common.{subst}
use Rattle.qm_any.specs.Databases.{AreAgreed}
use Rattle.qm_any.proofs.batch.MerkleizedBatch.bounds.Goals as goal

pub returns-clause-agreed : goal.returns-clause-agreed
returns-clause-agreed g c = subst AreAgreed c.self.view_is c.self.invariant.0
