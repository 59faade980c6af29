use Rattle.qm_index.proofs.Trees.{new-index}
use Rattle.qm_index.proofs.tree_table.TreeTableTable.new.Goals as goal

pub invariant_of-result : goal.invariant_of-result
invariant_of-result g c = new-index c.new.result c.new.ensures.ordered c.new.ensures.empty
