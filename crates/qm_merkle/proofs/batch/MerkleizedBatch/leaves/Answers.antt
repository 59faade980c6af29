use Rattle.std.proofs.Common.{◌∙◌, ap, get_or, subst, arith}
use Rattle.std.proofs.lemmas.List.Elements.{Contains-get_or}
use Rattle.qm_merkle.specs.Batches.{AreLinked, all_layers, stops}
use Rattle.qm_merkle.proofs.Putting.{stops-below}
use Rattle.qm_merkle.proofs.batch.MerkleizedBatch.leaves.Goals as goal

pub returns-clause-most : goal.returns-clause-most
returns-clause-most g c = λ k d lt.
    let shape = g.F.Family.shape in
    let batch = c.args.self.now in
    let n = batch.newest.tree.leaves in
    let linked = subst (λ b. AreLinked shape b.newest.tree.leaves (all_layers b)) c.self.view_is c.self.invariant.1 in
    let all = stops n (all_layers batch) in
    let count = c.leaves.ensures ∙ ap (λ l. l.tree.leaves) (c.behind-self.view_is ∙ c.deref.ensures) ∙ ap (λ b. b.newest.tree.leaves) c.self.view_is in
    omega (arith, stops-below shape n (all_layers batch) (get_or all k d) linked (Contains-get_or all k d lt), count)
