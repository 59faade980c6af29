use Rattle.std.proofs.Common.{◌-◌, length}
use Rattle.qm_model.specs.Trees.{peaks}
use Rattle.qm_keyproofs.proofs.range.RangeProof.+fold_onto.Given as goal

abbrev pub decreases-fold_onto : goal.decreases-fold_onto
decreases-fold_onto g l = length (peaks g.F.Family.shape l.self.now.proof.leaves) - l.number
