use Rattle.std.proofs.Common.{◌≡◌, true, Contains, ap, subst}
use Rattle.qm_merkle.specs.Batches.{stops}
use Rattle.qm_chain.specs.Bounds.{commitment_view, knows}
use Rattle.qm_any.specs.Databases.{AreAgreed}
use Rattle.qm_any.proofs.Agreed.{ok-tested, known-reached}
use Rattle.qm_any.proofs.batch.MerkleizedBatch.known.Goals as goal

pub returns-clause-reached : goal.returns-clause-reached
returns-clause-reached g c =
    let batch = c.args.self.now in
    let current = commitment_view g.D.Digest.bytes c.args.current.now in
    ok-tested c.compatible.result (knows c.self.inside.bounds current) (Contains (stops batch.tree.leaves batch.tree.layers) current.size) c.compatible.ensures.exact
    (λ known. known-reached batch (subst AreAgreed c.self.view_is c.self.invariant.0) current (subst (λ b. knows b current ≡ true) (ap (λ b. b.bounds) c.self.view_is) known))
