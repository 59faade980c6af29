use Rattle.qm_keyproofs.proofs.range.RangeProof.+rebuild.Given as goal

abbrev pub decreases-rebuild : goal.decreases-rebuild
decreases-rebuild g l = l.node.height
