use Rattle.std.proofs.Common.{◌≡◌, ◌≤◌, ◌∙◌, ◌+◌, ◌-◌, ap, subst, arith}
use Rattle.qm_merkle.specs.Batches.{AreLinked, all_layers}
use Rattle.qm_merkle.proofs.Numbering.{sizes}
use Rattle.qm_merkle.proofs.Putting.{stops-below}
use Rattle.qm_merkle.proofs.batch.MerkleizedBatch.room.Given
use Rattle.qm_merkle.proofs.batch.MerkleizedBatch.room.Goals as goal

pub location_to_position-requires-2 : goal.location_to_position-requires-2
location_to_position-requires-2 g c =
    let batch = c.args.self.now in
    let linked = subst (λ b. AreLinked g.F.Family.shape b.newest.tree.leaves (all_layers b)) c.self.view_is c.self.invariant.1 in
    omega (arith, stops-below g.F.Family.shape batch.newest.tree.leaves (all_layers batch) c.args.leaves linked c.requires, linked.1.few)

larger : (g : Given.Over) (c : goal.After-get-2 g) → (c.get-2.result ≤ c.get.result) × (g.F.Family.shape.size c.args.leaves + (c.get.result - c.get-2.result) ≡ g.F.Family.shape.size c.args.self.now.newest.tree.leaves)
larger g c =
    let shape = g.F.Family.shape in
    let batch = c.args.self.now in
    let linked = subst (λ b. AreLinked shape b.newest.tree.leaves (all_layers b)) c.self.view_is c.self.invariant.1 in
    let below = stops-below shape batch.newest.tree.leaves (all_layers batch) c.args.leaves linked c.requires in
    let leaves = c.leaves.ensures ∙ ap (λ l. l.tree.leaves) (c.behind-self.view_is ∙ c.deref.ensures) ∙ ap (λ b. b.newest.tree.leaves) c.self.view_is in
    let size : c.get.result ≡ shape.size batch.newest.tree.leaves = c.get.ensures ∙ c.location_to_position.ensures.size ∙ ap shape.size leaves in
    let old : c.get-2.result ≡ shape.size c.args.leaves = c.get-2.ensures ∙ c.location_to_position-2.ensures.size in
    let more = sizes shape g.F.Family.births g.met.F.Family.numbered c.args.leaves batch.newest.tree.leaves below in
    (omega (arith, size, old, more), omega (arith, size, old, more))

pub overflow_sub-result : goal.overflow_sub-result
overflow_sub-result g c = (larger g c).0

pub returns-clause-nodes : goal.returns-clause-nodes
returns-clause-nodes g c = (larger g c).1
