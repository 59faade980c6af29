use Rattle.std.proofs.Common.{◌≡◌, ◌≤◌, sym, subst, rules}
use Rattle.qm_any.specs.Databases.{AreAgreed}
use Rattle.qm_any.proofs.Agreed.{start-within}
use Rattle.qm_any.proofs.batch.MerkleizedBatch.start.Goals as goal

pub returns-clause-within : goal.returns-clause-within
returns-clause-within g c =
    let batch = c.args.self.now in
    let base : c.self-inside.inside.0.0.base.size ≡ batch.bounds.base.size = search rules in
    subst (λ n. n ≤ batch.tree.leaves) (sym base) (start-within batch (subst AreAgreed c.self.view_is c.self.invariant.0))
