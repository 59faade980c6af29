use Rattle.qm_proofs.proofs.Proof.+rebuild.Given as goal

abbrev pub decreases-rebuild : goal.decreases-rebuild
decreases-rebuild g l = l.node.height
