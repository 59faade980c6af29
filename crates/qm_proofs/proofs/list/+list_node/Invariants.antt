use Rattle.qm_proofs.proofs.list.+list_node.Given as goal

abbrev pub decreases-list_node : goal.decreases-list_node
decreases-list_node g l = l.node.height
