use Rattle.std.proofs.Common.{◌≡◌, true, Contains, ap, subst}
use Rattle.qm_merkle.specs.Batches.{stops}
use Rattle.qm_chain.specs.Bounds.{commitment_view, is_at}
use Rattle.qm_any.specs.Databases.{AreAgreed, bases}
use Rattle.qm_any.proofs.Agreed.{ok-tested, fits-among, fits-reached}
use Rattle.qm_any.proofs.batch.MerkleizedBatch.fits.Goals as goal

pub returns-clause-among : goal.returns-clause-among
returns-clause-among g c =
    let batch = c.args.self.now in
    let current = commitment_view g.D.Digest.bytes c.args.current.now in
    let bounds = c.self.inside.bounds in
    ok-tested c.validate_apply_to.result (is_at current bounds.db bounds.ancestors) (Contains (bases batch.layers) current.size) c.validate_apply_to.ensures.exact
    (λ fits. fits-among batch (subst AreAgreed c.self.view_is c.self.invariant.0) current (subst (λ b. is_at current b.db b.ancestors ≡ true) (ap (λ b. b.bounds) c.self.view_is) fits))

pub returns-clause-reached : goal.returns-clause-reached
returns-clause-reached g c =
    let batch = c.args.self.now in
    let current = commitment_view g.D.Digest.bytes c.args.current.now in
    let bounds = c.self.inside.bounds in
    ok-tested c.validate_apply_to.result (is_at current bounds.db bounds.ancestors) (Contains (stops batch.tree.leaves batch.tree.layers) current.size) c.validate_apply_to.ensures.exact
    (λ fits. fits-reached batch (subst AreAgreed c.self.view_is c.self.invariant.0) current (subst (λ b. is_at current b.db b.ancestors ≡ true) (ap (λ b. b.bounds) c.self.view_is) fits))
