use Rattle.std.proofs.Common.{◌-◌, length}
use Rattle.qm_model.specs.Trees.{peaks}
use Rattle.qm_keyproofs.proofs.range.RangeProof.+fold_right.Given as goal

abbrev pub decreases-fold_right : goal.decreases-fold_right
decreases-fold_right g l = length (peaks g.F.Family.shape l.self.now.proof.leaves) - l.number
