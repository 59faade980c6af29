use Rattle.qm_merkle.proofs.Putting.{AreReplaced}
use Rattle.qm_merkle.proofs.batch.put.replace_nodes.Given as goal

abbrev pub invariant-loop-position : goal.invariant-loop-position
invariant-loop-position g l = AreReplaced l.fn.size l.initial.replaced.entries l.initial.nodes l.position-iterator l.nodes
